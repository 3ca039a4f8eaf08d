-- The header's last number. Assumes nothing.
use native.Mathlib.Omega.{arith}
use Rattle.store_views.proofs.Header.{can_read, was_read}
use Rattle.store_views.proofs.next_number.Goals as goal

pub get-requires-clause-can : goal.get-requires-clause-can
get-requires-clause-can c = can_read _ _ _ (omega arith) c.requires

pub returns : goal.returns
returns c = was_read c.args.b.now 5 _ c.get.ensures
