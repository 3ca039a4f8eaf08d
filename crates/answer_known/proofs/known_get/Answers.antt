-- The table is the part. Assumes nothing.
use Rattle.answer_known.specs.Known.{known_of}
use Rattle.answer_known.proofs.Known.{get_known}
use Rattle.answer_known.proofs.known_get.Goals as goal

pub get-requires-clause-can : goal.get-requires-clause-can
get-requires-clause-can c = get_known c.requires

pub returns : goal.returns
unfolding known_of
returns c = c.get.ensures
