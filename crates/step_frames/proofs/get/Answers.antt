-- The table is the part. Assumes nothing.
use Rattle.step_frames.specs.Frames.{frames_of}
use Rattle.step_frames.proofs.Frames.{can_get}
use Rattle.step_frames.proofs.get.Goals as goal

pub get-requires-clause-can : goal.get-requires-clause-can
get-requires-clause-can c = can_get c.requires

pub returns : goal.returns
unfolding frames_of
returns c = c.get.ensures
