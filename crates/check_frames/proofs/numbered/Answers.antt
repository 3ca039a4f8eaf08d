-- The numbers are small. Assumes nothing.
use mathlib.Core.Path.{refl}
use Rattle.check_frames.proofs.numbered.Goals as goal

pub returns : goal.returns
returns c = refl
