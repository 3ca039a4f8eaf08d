-- The number is put into the table. Assumes nothing.
use Rattle.check_frames.specs.Stack.{set_frame, put_frame}
use Rattle.check_frames.proofs.push.Goals as goal

pub put-requires-clause-can : goal.put-requires-clause-can
put-requires-clause-can c = set_frame c.requires c.pack-v.ensures

pub returns : goal.returns
returns c = put_frame c.pack-v.ensures c.put.ensures
