-- The number is read from the table. Assumes nothing.
use Rattle.check_frames.specs.Stack.{get_frame, got_frame}
use Rattle.check_frames.proofs.top.Goals as goal

pub get-v-requires-clause-can : goal.get-v-requires-clause-can
get-v-requires-clause-can c = get_frame c.requires

pub returns : goal.returns
returns c = got_frame c.get-v.ensures c.unpack.ensures
