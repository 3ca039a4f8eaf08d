-- The part came back with one number written. Assumes nothing.
use borrow.Author.Rules.{rules}
use Rattle.mem_parts.specs.Parts.{cut, set_of}
use Rattle.mem_parts.proofs.put.Goals as goal

pub put-requires-clause-can : goal.put-requires-clause-can
unfolding cut
put-requires-clause-can g c = search rules

pub returns : goal.returns
unfolding cut
returns g c =
    set_of g.row.W c.args.a c.args.e c.args.w.now c.put.new.b c.args.i c.args.v c.requires.can.le c.requires.can.fits c.put.auto.b c.put.ensures
