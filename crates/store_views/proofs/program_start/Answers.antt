-- Behind the header's second number of nodes. Assumes nothing.
use mathlib.Core.Path.{ap}
use Prim.Native.Nat.{ℕ, ◌+◌, ◌*◌}
use native.Mathlib.Omega.{arith}
use Rattle.store_views.proofs.Header.{can_read, was_read}
use Rattle.store_views.proofs.program_start.Goals as goal

pub get-n-requires-clause-can : goal.get-n-requires-clause-can
get-n-requires-clause-can c = can_read _ _ _ (omega arith) c.requires

pub overflow_mul-result : goal.overflow_mul-result
overflow_mul-result c = let g = was_read c.args.b.now 1 _ c.get-n.ensures in omega (arith, g.1)

pub overflow_add-result : goal.overflow_add-result
overflow_add-result c = let g = was_read c.args.b.now 1 _ c.get-n.ensures in omega (arith, g.1)

pub returns : goal.returns
returns c = ap (λ (n : ℕ). 18 + 3 * n) (was_read c.args.b.now 1 _ c.get-n.ensures).0
