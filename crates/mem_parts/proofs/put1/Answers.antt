-- The part came back with one number written. Assumes nothing.
use borrow.Author.Rules.{rules}
use Rattle.mem_parts.specs.Parts.{cut, set1_of}
use Rattle.mem_parts.proofs.put1.Goals as goal

pub byte_put-requires : goal.byte_put-requires
unfolding cut
byte_put-requires c = search rules

pub returns : goal.returns
unfolding cut
returns c =
    set1_of c.args.a c.args.e c.args.w.now c.byte_put.new.b c.args.i c.args.v c.requires.le c.requires.fits c.byte_put.auto.b c.byte_put.ensures
