-- The header's third number. Assumes nothing.
use native.Mathlib.Omega.{arith}
use Rattle.store_views.proofs.Header.{can_read, was_read}
use Rattle.store_views.proofs.program_count.Goals as goal

pub get-requires-clause-can : goal.get-requires-clause-can
get-requires-clause-can c = can_read _ _ _ (omega arith) c.requires

pub returns : goal.returns
returns c = was_read c.args.b.now 2 _ c.get.ensures
