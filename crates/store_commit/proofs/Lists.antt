-- Two regions written: the header's last numbers, then the configuration. Assumes nothing.
use mathlib.Core.Path.{◌≡◌, refl, sym, ap, ap₂, ◌∙◌}
use mathlib.Core.List.{List, [], ◌∷◌, ◌++◌, append_assoc}
use Prim.Native.Nat.{ℕ, ◌+◌, ◌-◌, ◌*◌, ◌≤◌}
use native.Mathlib.Omega.{arith}
use lib.ListN.{length, take, drop, length-append}
use lib.Seq.{length-take-le, take-append-add, drop-append-add, drop-drop}
use Rattle.akl.specs.Limits.{most_parts}
use Rattle.mem_parts.specs.Parts.{cut}
use Rattle.store_form.specs.Sizes.{header_length, config_start, config_length}
use Rattle.store_form.specs.Form.{number_bytes, numbers_bytes, region}
use Rattle.store_form.proofs.Lengths.{starts, lengths}
use Rattle.store_pieces.proofs.Numbers.{ByteList}
use Rattle.store_regions.specs.Regions.{Regioned}
use Rattle.store_commit.specs.Committed.{committed, Committed}

-- K written from a on up to h, then S from c on up to e, behind it
two_regions : (L K S X Y : List ℕ) (a h c e : ℕ) → a ≤ h → length K ≡ h - a → h ≤ c → c ≤ e → e ≤ length L
    → X ≡ take a L ++ (K ++ drop h L) → Y ≡ take c X ++ region (e - c) S (drop e X)
    → Y ≡ take a L ++ (K ++ (cut h c L ++ region (e - c) S (drop e L)))
unfolding cut
two_regions L K S X Y a h c e ah lk hc ce el x y =
    let A : List ℕ = take a L ++ K in
    let la : length A ≡ h = omega (arith, length-append (take a L) K, length-take-le a L (omega arith)) in
    let x1 : X ≡ A ++ drop h L = x ∙ sym (append_assoc (take a L) K (drop h L)) in
    let kc : c ≡ length A + (c - h) = omega arith in
    let ke : e ≡ length A + (e - h) = omega arith in
    let ee : h + (e - h) ≡ e = omega arith in
    let front : take c X ≡ A ++ take (c - h) (drop h L) = ap₂ take kc x1 ∙ take-append-add A (drop h L) (c - h) in
    let back : drop e X ≡ drop e L = ap₂ drop ke x1 ∙ drop-append-add A (drop h L) (e - h) ∙ drop-drop (e - h) h L ∙ ap (λ (k : ℕ). drop k L) ee in
    y
    ∙ ap₂ (λ (u v : List ℕ). u ++ region (e - c) S v) front back
    ∙ append_assoc A (take (c - h) (drop h L)) (region (e - c) S (drop e L))
    ∙ append_assoc (take a L) K (take (c - h) (drop h L) ++ region (e - c) S (drop e L))

-- the first region is full
pub counts_put : (L : List ℕ) (n next : ℕ) (H X : List ℕ) → H ≡ numbers_bytes (n ∷ next ∷ []) → Regioned L 12 18 (take 6 H) X → X ≡ take 12 L ++ (numbers_bytes (n ∷ next ∷ []) ++ drop 18 L)
unfolding numbers_bytes number_bytes region
counts_put L n next H X e w = w.list ∙ ap (λ (h : List ℕ). take 12 L ++ region (18 - 12) (take 6 h) (drop 18 L)) e

pub count_six : (n next : ℕ) → length (numbers_bytes (n ∷ next ∷ [])) ≡ 6
unfolding numbers_bytes number_bytes
count_six n next = refl

config_is : 245853 - 159837 ≡ config_length most_parts
unfolding config_length
config_is = refl

pub was_committed : (L S H X Y : List ℕ) (n next : ℕ) → 245853 ≤ length L → ByteList S → H ≡ numbers_bytes (n ∷ next ∷ []) → Regioned L 12 18 (take 6 H) X → Regioned X 159837 245853 (take (3 * n) S) Y → Committed L S n next Y
unfolding committed
was_committed L S H X Y n next l b e w v =
    let K : List ℕ = numbers_bytes (n ∷ next ∷ []) in
    let C : List ℕ = take (3 * n) S in
    record {
      list =
          two_regions L K C X Y 12 18 159837 245853 (omega arith) (count_six n next) (omega arith) (omega arith) l (counts_put L n next H X e w) v.list
          ∙ ap₂ (λ (h c : ℕ). take 12 L ++ (K ++ (cut h c L ++ region (245853 - 159837) C (drop 245853 L)))) (sym starts.0) (sym starts.2)
          ∙ ap₂ (λ (r s : ℕ). take 12 L ++ (K ++ (cut header_length config_start L ++ region r C (drop s L)))) config_is (sym lengths.0);
      long = v.long ∙ w.long;
      bytes = b;
    }
