-- The header as a part of the store's bytes. Assumes nothing.
use mathlib.Core.Path.{◌≡◌}
use mathlib.Core.List.{List}
use Prim.Native.Nat.{ℕ, ◌+◌, ◌*◌, ◌≤◌, ◌<◌}
use native.Mathlib.Omega.{arith}
use lib.ListN.{length, get_or}
use Rattle.mem_numbers.specs.Numbers.{triples, length_triples, Got}
use Rattle.mem_parts.specs.Parts.{cut, CanGet, length_cut}
use Rattle.store_form.specs.Sizes.{header_length}
use Rattle.check_held.specs.Checks.{numbers_in}

-- whole numbers in the bytes from a on may be read
pub can_read : (L : List ℕ) (a i : ℕ) → a + 3 * i + 3 ≤ 18 → 18 ≤ length L → CanGet a 18 L (triples (cut a 18 L)) i
can_read L a i h l = record { le = omega arith; fits = l; inside = omega (arith, length_triples (cut a 18 L), length_cut a 18 L l) }

-- those of the header are counted from its first byte on
pub was_read : (L : List ℕ) (i r : ℕ) → Got (triples (cut 0 18 L)) i 16777216 r → (r ≡ get_or (numbers_in L) i 0) × (r < 16777216)
unfolding cut numbers_in header_length
was_read L i r g = (g.is, g.small)
