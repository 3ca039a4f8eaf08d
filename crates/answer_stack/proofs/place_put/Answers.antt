-- The table is the part, and the others lie outside of it. Assumes nothing.
use Rattle.answer_stack.specs.Slots.{put_place}
use Rattle.answer_stack.proofs.Slots.{set_place}
use Rattle.answer_stack.proofs.place_put.Goals as goal

pub put-requires-clause-can : goal.put-requires-clause-can
put-requires-clause-can c = set_place c.requires

pub returns : goal.returns
returns c = put_place c.requires.laid c.put.ensures
