-- The table is the part. Assumes nothing.
use Rattle.answer_stack.specs.Slots.{places_of}
use Rattle.answer_stack.proofs.Slots.{get_place}
use Rattle.answer_stack.proofs.place_get.Goals as goal

pub get-requires-clause-can : goal.get-requires-clause-can
get-requires-clause-can c = get_place c.requires

pub returns : goal.returns
unfolding places_of
returns c = c.get.ensures
