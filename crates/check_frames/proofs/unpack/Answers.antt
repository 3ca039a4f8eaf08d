-- The parts of the number. Assumes nothing.
use Rattle.check_shapes.specs.Bounds.{number_frame}
use Rattle.check_frames.proofs.unpack.Goals as goal

pub returns : goal.returns
unfolding number_frame
returns c = c.of_kind.ensures
