-- Where a list of words is put together from segments, its pieces between their ends are segments.
use mathlib.Core.Path.{◌≡◌, refl, ap, ap₂, sym, ◌∙◌}
use mathlib.Core.List.{List, [], ◌∷◌, ◌++◌, append_assoc}
use Prim.Native.Nat.{ℕ, ◌+◌, ◌-◌, ◌≤◌}
use native.Mathlib.Omega.{arith}
use lib.ListN.{length, take, drop, length-append}
use lib.Seq.{take_at, drop_at, drop-append_seam, take-append_seam}
use Rattle.mem_words.specs.declared.Word.{Word}
use Rattle.rule_words.specs.Pieces.{cut, cat}

abbrev pub join : List (List Word) → List Word
join [] = []
join (x ∷ []) = x
join (x ∷ (y ∷ X)) = x ++ join (y ∷ X)

abbrev pub size : List (List Word) → ℕ
size [] = 0
size (x ∷ X) = length x + size X

pub cat_join : (X : List (List Word)) (Z : List Word) → cat X Z ≡ join X ++ Z
cat_join [] Z = refl
cat_join (x ∷ []) Z = refl
cat_join (x ∷ (y ∷ X)) Z = ap (λ (l : List Word). x ++ l) (cat_join (y ∷ X) Z) ∙ sym (append_assoc x (join (y ∷ X)) Z)

pub size_join : (X : List (List Word)) → length (join X) ≡ size X
size_join [] = refl
size_join (x ∷ []) = omega arith
size_join (x ∷ (y ∷ X)) = omega (arith, length-append x (join (y ∷ X)), size_join (y ∷ X))

pub size_cat : (X : List (List Word)) (Z : List Word) → length (cat X Z) ≡ size X + length Z
size_cat X Z = ap length (cat_join X Z) ∙ length-append (join X) Z ∙ ap (λ (k : ℕ). k + length Z) (size_join X)

-- up to the end of X, from there on, and between the ends of X and of Y
pub seg_take : (X : List (List Word)) (Z W : List Word) (i : ℕ) → W ≡ cat X Z → i ≡ size X → take i W ≡ join X
seg_take X Z W i w p = ap (take i) (w ∙ cat_join X Z) ∙ take_at (join X) Z i (size_join X ∙ sym p)

pub seg_drop : (X : List (List Word)) (Z W : List Word) (i : ℕ) → W ≡ cat X Z → i ≡ size X → drop i W ≡ Z
seg_drop X Z W i w p = ap (drop i) (w ∙ cat_join X Z) ∙ drop_at (join X) Z i (size_join X ∙ sym p)

pub cut_mid : (A B C W : List Word) (i j : ℕ) → W ≡ A ++ (B ++ C) → i ≡ length A → j ≡ length A + length B → cut i j W ≡ B
unfolding cut
cut_mid A B C W i j w p q =
    let n : length B ≡ j - i = omega arith in
    ap₂ (λ (k : ℕ) (l : List Word). take k l) (sym n) (ap₂ drop p w ∙ drop-append_seam A (B ++ C)) ∙ take-append_seam B C

pub seg_cut : (X Y : List (List Word)) (Z W : List Word) (i j : ℕ) → W ≡ cat X (cat Y Z) → i ≡ size X → j ≡ size X + size Y → cut i j W ≡ join Y
seg_cut X Y Z W i j w p q = cut_mid (join X) (join Y) Z W i j (w ∙ cat_join X (cat Y Z) ∙ ap (λ (l : List Word). join X ++ l) (cat_join Y Z)) (p ∙ sym (size_join X)) (omega (arith, size_join X, size_join Y))

-- the same with words that follow
pub seg_take_on : (X : List (List Word)) (Z W : List Word) (i : ℕ) → W ≡ cat X Z → i ≡ size X → (T : List Word) → take i W ++ T ≡ cat X T
seg_take_on X Z W i w p T = ap (λ (l : List Word). l ++ T) (seg_take X Z W i w p) ∙ sym (cat_join X T)

pub seg_cut_on : (X Y : List (List Word)) (Z W : List Word) (i j : ℕ) → W ≡ cat X (cat Y Z) → i ≡ size X → j ≡ size X + size Y → (T : List Word) → cut i j W ++ T ≡ cat Y T
seg_cut_on X Y Z W i j w p q T = ap (λ (l : List Word). l ++ T) (seg_cut X Y Z W i j w p q) ∙ sym (cat_join Y T)
