-- A region that is written up to zeros is written up to their end: nothing has to be made zero that is. Assumes nothing.
use mathlib.Core.Path.{◌≡◌, sym, ap, ap₂, ◌∙◌}
use mathlib.Core.List.{List, [], ◌∷◌, ◌++◌, append_assoc}
use Prim.Native.Nat.{ℕ, ◌+◌, ◌-◌, ◌*◌, ◌≤◌}
use native.Mathlib.Omega.{arith}
use lib.ListN.{length, get_or, replicate, replicate-append-replicate, take, drop, length-append}
use lib.Seq.{length-take-le, get_or-drop, get_or-append-add}
use Rattle.check_zeros.specs.Zeros.{Zeros}
use Rattle.check_held.proofs.Cut.{region_at}
use Rattle.store_form.specs.Form.{numbers_bytes, region}
use Rattle.store_form.specs.Holding.{piece}
use Rattle.store_pieces.proofs.Numbers.{ByteList}
use Rattle.store_regions.specs.Regions.{Regioned}
use Rattle.store_commit.specs.Committed.{CanCommit, Committed}
use Rattle.store_commit.proofs.Lists.{counts_put, count_six, was_committed}

-- what stands from f on begins with zeros
zeros_first : (L : List ℕ) (f e : ℕ) → f ≤ e → e ≤ length L → Zeros L f e → drop f L ≡ replicate (e - f) 0 ++ drop e L
unfolding piece region
zeros_first L f e h g z =
    let k : f + (e - f) ≡ e = omega arith in
    let m : e - f - 0 ≡ e - f = omega arith in
    region_at f 0 (e - f) L (omega arith) (omega arith) (λ i p q. z i (omega arith) (omega arith)) ∙ ap₂ (λ (u j : ℕ). replicate u 0 ++ drop j L) m k

pub wider : (L : List ℕ) (a f e : ℕ) (S Y : List ℕ) → a ≤ f → f ≤ e → e ≤ length L → length S ≤ f - a → Zeros L f e → Regioned L a f S Y → Regioned L a e S Y
unfolding region
wider L a f e S Y af fe el s z w =
    let m : ℕ = f - a - length S in
    let k : m + (e - f) ≡ e - a - length S = omega arith in
    record {
      list =
          w.list
          ∙ ap (λ (r : List ℕ). take a L ++ (S ++ (replicate m 0 ++ r))) (zeros_first L f e fe el z)
          ∙ ap (λ (r : List ℕ). take a L ++ (S ++ r)) (sym (append_assoc (replicate m 0) (replicate (e - f) 0) (drop e L)))
          ∙ ap (λ (r : List ℕ). take a L ++ (S ++ (r ++ drop e L))) (replicate-append-replicate m (e - f) 0 ∙ ap (λ (j : ℕ). replicate j 0) k);
      long = w.long;
    }

-- behind a change of the first h bytes all is as it was
behind : (A L X : List ℕ) (h i : ℕ) → X ≡ A ++ drop h L → length A ≡ h → h ≤ i → get_or X i 0 ≡ get_or L i 0
behind A L X h i x l g =
    let k : i ≡ length A + (i - h) = omega arith in
    let j : h + (i - h) ≡ i = omega arith in
    ap₂ (λ (y : List ℕ) (m : ℕ). get_or y m 0) x k ∙ get_or-append-add A (drop h L) (i - h) 0 ∙ get_or-drop h L (i - h) 0 ∙ ap (λ (m : ℕ). get_or L m 0) j

-- The header's counts, then the configuration up to the end of the longer of the old and the new.
pub was_over : (L S H X Y : List ℕ) (n next old m e : ℕ) → CanCommit L S n old → n ≤ m → old ≤ m → m ≤ 28672 → e ≡ 159837 + 3 * m → ByteList S → H ≡ numbers_bytes (n ∷ next ∷ [])
    → Regioned L 12 18 (take 6 H) X → Regioned X 159837 e (take (3 * n) S) Y → Committed L S n next Y
was_over L S H X Y n next old m e can nm om few q b c w v =
    let K : List ℕ = numbers_bytes (n ∷ next ∷ []) in
    let A : List ℕ = take 12 L ++ K in
    let la : length A ≡ 18 = omega (arith, length-append (take 12 L) K, length-take-le 12 L (omega (arith, can.store)), count_six n next) in
    let x : X ≡ A ++ drop 18 L = counts_put L n next H X c w ∙ sym (append_assoc (take 12 L) K (drop 18 L)) in
    let z : Zeros X e 245853 = λ i p g. behind A L X 18 i x la (omega arith) ∙ can.zeros i (omega arith) g in
    was_committed L S H X Y n next can.store b c w
    (wider X 159837 e 245853 (take (3 * n) S) Y (omega arith) (omega arith) (omega (arith, can.store, w.long)) (omega (arith, length-take-le (3 * n) S can.source)) z v)
