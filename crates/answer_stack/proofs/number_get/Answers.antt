-- The table is the part. Assumes nothing.
use Rattle.answer_stack.specs.Slots.{numbers_of, get_number}
use Rattle.answer_stack.proofs.number_get.Goals as goal

pub get-requires-clause-can : goal.get-requires-clause-can
get-requires-clause-can c = get_number c.requires

pub returns : goal.returns
unfolding numbers_of
returns c = c.get.ensures
