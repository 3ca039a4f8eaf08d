use mathlib.Core.Path.{◌≡◌}
use Prim.Native.Nat.{ℕ, ◌<◌, ◌≤◌}
use lib.ListN.{get_or}
use Rattle.mem_numbers.specs.Numbers.{shorts}
use Rattle.read_lookups.proofs.number_of.Given as goal

abbrev pub invariant-loop-i : goal.invariant-loop-i
invariant-loop-i l = (l.i ≤ l.k) × ((j : ℕ) → j < l.i → get_or (shorts l.order) j 0 ≡ l.id → ⊥)
