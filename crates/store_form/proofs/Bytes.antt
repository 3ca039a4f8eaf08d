-- The regions of a store's bytes: their lengths, and what stands in them.
use mathlib.Core.Path.{◌≡◌, refl, ap, ap₂, sym, ◌∙◌}
use mathlib.Core.List.{List, [], ◌∷◌, ◌++◌, append_assoc}
use Prim.Native.Nat.{ℕ, zero, suc, ◌+◌, ◌-◌, ◌*◌, ◌/◌, ◌%◌, ◌<◌, ◌≤◌}
use native.Mathlib.Omega.{arith}
use lib.ListN.{length, get_or, take, drop, replicate, length-append, length-replicate}
use lib.Seq.{take_at, drop_at, drop-drop, ext_get_or}
use Rattle.mem_numbers.specs.Numbers.{triples, value_at, length_triples, get_or_triples}
use Rattle.store_form.specs.Form.{number_bytes, numbers_bytes, region}
use Rattle.store_form.specs.Holding.{piece}

-- every number has three bytes
abbrev pub Triples : List ℕ → Type 0
Triples [] = Unit {0}
Triples (v ∷ l) = (v < 16777216) × Triples l

pub length_numbers_bytes : (L : List ℕ) → length (numbers_bytes L) ≡ 3 * length L
unfolding numbers_bytes number_bytes
length_numbers_bytes [] = refl
length_numbers_bytes (v ∷ L) = omega (arith, length_numbers_bytes L)

three_on : (a b c : ℕ) (l : List ℕ) (j : ℕ) → value_at 3 (a ∷ b ∷ c ∷ l) (suc (suc (suc j))) ≡ value_at 3 l j
three_on a b c l j =
    let w = a ∷ b ∷ c ∷ l in
    let e : suc (suc (suc j)) + 1 ≡ suc (suc (suc (j + 1))) = omega arith in
    let f : suc (suc (suc j)) + 1 + 1 ≡ suc (suc (suc (j + 1 + 1))) = omega arith in
    ap₂ (λ (x y : ℕ). get_or l j 0 + (get_or w x 0 + (get_or w y 0 + 0 * 256) * 256) * 256) e f

bytes_at : (L : List ℕ) → Triples L → (i : ℕ) → i < length L → value_at 3 (numbers_bytes L) (3 * i) ≡ get_or L i 0
unfolding numbers_bytes number_bytes
bytes_at [] t i h = absurd (omega arith)
bytes_at (v ∷ L) t zero h = let a = t.0 in let e : v % 256 + (v / 256 % 256 + (v / 65536 % 256 + 0 * 256) * 256) * 256 ≡ v = omega (arith, a) in e
bytes_at (v ∷ L) t (suc i) h =
    let e : 3 * suc i ≡ suc (suc (suc (3 * i))) = omega arith in
    ap (value_at 3 (numbers_bytes (v ∷ L))) e ∙ three_on (v % 256) (v / 256 % 256) (v / 65536 % 256) (numbers_bytes L) (3 * i) ∙ bytes_at L t.1 i (omega arith)

-- the numbers of the bytes of numbers
pub numbers_back : (L : List ℕ) → Triples L → triples (numbers_bytes L) ≡ L
numbers_back L t =
    let n : length (triples (numbers_bytes L)) ≡ length L = omega (arith, length_triples (numbers_bytes L), length_numbers_bytes L) in
    ext_get_or 0 (triples (numbers_bytes L)) L n (λ i h. get_or_triples (numbers_bytes L) i h ∙ bytes_at L t i (omega (arith, n)))

-- ---------------------------------------------------------------------------------------------
-- Regions.

pub length_region : (n : ℕ) (l r : List ℕ) → length l ≤ n → length (region n l r) ≡ n + length r
unfolding region
length_region n l r h = omega (arith, length-append l (replicate (n - length l) 0 ++ r), length-append (replicate (n - length l) 0) r, length-replicate {A = ℕ} (n - length l) 0)

-- behind a region
pub drop_region : (n : ℕ) (l r : List ℕ) → length l ≤ n → drop n (region n l r) ≡ r
unfolding region
drop_region n l r h =
    let z : List ℕ = replicate (n - length l) 0 in
    let e : length (l ++ z) ≡ n = omega (arith, length-append l z, length-replicate {A = ℕ} (n - length l) 0) in
    ap (drop n) (sym (append_assoc l z r)) ∙ drop_at (l ++ z) r n e

-- what a region begins with
pub piece_region : (o k n : ℕ) (b l r : List ℕ) → drop o b ≡ region n l r → length l ≡ 3 * k → piece o k b ≡ l
unfolding piece region
piece_region o k n b l r e f = ap (take (3 * k)) e ∙ take_at l (replicate (n - length l) 0 ++ r) (3 * k) f

-- from one region to the next
pub next_region : (o n : ℕ) (b l r : List ℕ) → drop o b ≡ region n l r → length l ≤ n → drop (o + n) b ≡ r
next_region o n b l r e h = sym (drop-drop n o b) ∙ ap (drop n) e ∙ drop_region n l r h
