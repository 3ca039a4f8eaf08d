-- What the part holds is what `cut` says. Assumes nothing.
use borrow.Author.Rules.{rules}
use Rattle.mem_parts.specs.Parts.{cut}
use Rattle.mem_parts.proofs.get.Goals as goal

pub get-requires-clause-inside : goal.get-requires-clause-inside
unfolding cut
get-requires-clause-inside g c = search rules

pub returns : goal.returns
unfolding cut
returns g c = search rules
