-- What the part holds is what `cut` says. Assumes nothing.
use borrow.Author.Rules.{rules}
use Rattle.mem_parts.specs.Parts.{cut}
use Rattle.mem_parts.proofs.get1.Goals as goal

pub byte_get-requires : goal.byte_get-requires
unfolding cut
byte_get-requires c = search rules

pub returns : goal.returns
unfolding cut
returns c = search rules
