-- The table is the part. Assumes nothing.
use Rattle.step_frames.specs.Frames.{frames_of}
use Rattle.step_frames.proofs.Frames.{can_put}
use Rattle.step_frames.proofs.put.Goals as goal

pub put-requires-clause-can : goal.put-requires-clause-can
put-requires-clause-can c = can_put c.requires

pub returns : goal.returns
unfolding frames_of
returns c = record { list = c.put.ensures.part; rest = c.put.ensures.rest }
