-- The table is the part. Assumes nothing.
use Rattle.step_path.specs.Paths.{path_of}
use Rattle.step_path.proofs.Paths.{can_get}
use Rattle.step_path.proofs.get.Goals as goal

pub get-requires-clause-can : goal.get-requires-clause-can
get-requires-clause-can c = can_get c.requires

pub returns : goal.returns
unfolding path_of
returns c = c.get.ensures
