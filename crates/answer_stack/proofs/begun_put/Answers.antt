-- The table is the part, and the others lie outside of it. Assumes nothing.
use Rattle.answer_stack.specs.Slots.{set_begun, put_begun}
use Rattle.answer_stack.proofs.begun_put.Goals as goal

pub put-requires-clause-can : goal.put-requires-clause-can
put-requires-clause-can c = set_begun c.requires

pub returns : goal.returns
returns c = put_begun c.requires.laid c.put.ensures
