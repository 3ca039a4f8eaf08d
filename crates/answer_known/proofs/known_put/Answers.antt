-- The table is the part, and the others lie outside of it. Assumes nothing.
use Rattle.answer_known.specs.Known.{put_known}
use Rattle.answer_known.proofs.Known.{set_known}
use Rattle.answer_known.proofs.known_put.Goals as goal

pub put-requires-clause-can : goal.put-requires-clause-can
put-requires-clause-can c = set_known c.requires

pub returns : goal.returns
returns c = put_known c.requires.laid c.put.ensures
