-- The table is the part. Assumes nothing.
use Rattle.answer_stack.specs.Slots.{begun_of, get_begun}
use Rattle.answer_stack.proofs.begun_get.Goals as goal

pub get-requires-clause-can : goal.get-requires-clause-can
get-requires-clause-can c = get_begun c.requires

pub returns : goal.returns
unfolding begun_of
returns c = c.get.ensures
