-- The numbers in the first bytes of a list are its first numbers. Assumes nothing.
use Rattle.std.specs.Prelude.{◌≡◌, refl, List, ℕ, zero, suc, ◌+◌, ◌*◌, ◌<◌, ◌≤◌, length, get_or, take}
use Rattle.std.proofs.Common.{ap₂, sym, ◌∙◌, arith, ext_get_or, get_or-take, length-take-le}
use Rattle.mem_numbers.specs.Numbers.{value_at, triples, length_triples, get_or_triples}

value_prefix : (w : ℕ) (l : List ℕ) (m j : ℕ) → j + w ≤ m → value_at w (take m l) j ≡ value_at w l j
value_prefix zero l m j h = refl
value_prefix (suc w) l m j h = ap₂ (λ (x y : ℕ). x + y * 256) (get_or-take m l j 0 (omega arith)) (value_prefix w l m (j + 1) (omega arith))

pub triples_prefix : (l : List ℕ) (k : ℕ) → 3 * k ≤ length l → triples (take (3 * k) l) ≡ take k (triples l)
triples_prefix l k h =
    let a = length_triples l in
    let b : length (take (3 * k) l) ≡ 3 * k = length-take-le (3 * k) l h in
    let c = length_triples (take (3 * k) l) in
    let d : length (take k (triples l)) ≡ k = length-take-le k (triples l) (omega arith) in
    ext_get_or 0 (triples (take (3 * k) l)) (take k (triples l)) (omega arith) (λ i g. at i (omega arith))
  where
    at : (i : ℕ) → i < k → get_or (triples (take (3 * k) l)) i 0 ≡ get_or (take k (triples l)) i 0
    at i g =
        let a = length_triples l in
        let b : length (take (3 * k) l) ≡ 3 * k = length-take-le (3 * k) l h in
        let c = length_triples (take (3 * k) l) in
        get_or_triples (take (3 * k) l) i (omega arith)
        ∙ value_prefix 3 l (3 * k) (3 * i) (omega arith)
        ∙ sym (get_or_triples l i (omega arith))
        ∙ sym (get_or-take k (triples l) i 0 g)
