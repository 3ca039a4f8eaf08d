-- Both lists are written out. Assumes nothing.
use mathlib.Core.Path.{refl}
use Rattle.mem_tallies.specs.Tallies.{firsts}
use Rattle.mem_tallies.proofs.first_bytes.Goals as goal

pub returns : goal.returns
unfolding firsts
returns c = refl
