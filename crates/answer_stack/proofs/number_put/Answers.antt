-- The table is the part, and the others lie outside of it. Assumes nothing.
use Rattle.answer_stack.specs.Slots.{set_number, put_number}
use Rattle.answer_stack.proofs.number_put.Goals as goal

pub put-requires-clause-can : goal.put-requires-clause-can
put-requires-clause-can c = set_number c.requires

pub returns : goal.returns
returns c = put_number c.put.ensures
