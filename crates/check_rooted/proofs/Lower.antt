-- Nodes one after another have their parents below them. Assumes nothing.
use mathlib.Core.Path.{◌≡◌, ap}
use mathlib.Core.List.{List}
use Prim.Native.Nat.{ℕ, ◌+◌, ◌/◌, ◌<◌, ◌≤◌}
use native.Mathlib.Omega.{arith}
use native.Mathlib.Decide.{ℕ_discrete}
use lib.ListN.{length, get_or}
use Rattle.read_nodes.specs.Spell.{Lower}

-- one node more has its parent below it
pub lower_more : (N : List ℕ) (i p : ℕ) → Lower N i → p ≡ get_or N i 0 / 256 → p < i → Lower N (i + 1)
lower_more N i p L e h j a b = go (ℕ_discrete j i)
  where
    go : Dec (j ≡ i) → get_or N j 0 / 256 < j
    go (yes q) = let z : get_or N j 0 / 256 ≡ get_or N i 0 / 256 = ap (λ (k : ℕ). get_or N k 0 / 256) q in omega arith
    go (no q) = L j a (omega arith)

-- and so have all
pub lower_all : (N : List ℕ) (i : ℕ) → length N ≤ i → Lower N i → Lower N (length N)
lower_all N i h L j a b = L j a (omega arith)
