-- The part came back zero. Assumes nothing.
use borrow.Author.Rules.{rules}
use Rattle.mem_parts.specs.Parts.{cut, zero_of}
use Rattle.mem_parts.proofs.zero.Goals as goal

pub returns : goal.returns
unfolding cut
returns c =
    zero_of c.args.a c.args.e c.args.w.now c.fill.new.self c.requires.le c.requires.fits (search rules) (search rules)
