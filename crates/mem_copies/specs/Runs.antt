-- Runs of elements in a list: copied into another list, moved within one, and compared. Assumes nothing.
use Rattle.std.specs.Prelude.{◌≡◌, refl, List, [], ◌∷◌, ◌++◌, map, ℕ, zero, suc, ◌+◌, ◌-◌, ◌<◌, ◌≤◌, length, set, take}
use Rattle.std.proofs.Math.Path.{ap, sym}
use Rattle.std.proofs.Common.{ap₂, ◌∙◌, append_assoc, add-one, not-suc-le-zero, le_of_suc-le-suc, arith, length-drop, get_or-drop, length-take-le, take-suc}
use Rattle.std.proofs.Math.ListN.{get_or, drop, get_or-append}
use Rattle.std.proofs.lemmas.List.{length-map}
use Rattle.std.proofs.Math.Seq.{paste, paste-zero, paste-suc, get_or-append-add, get_or-take, length_paste_head}
use Rattle.std.proofs.lemmas.List.Edits.{length-paste, take-paste, drop-paste}
use Rattle.mem_numbers.specs.Stored.{Stored}

-- what may be copied: the n elements from `from` on of S, to `at` in D
pub record CanCopy {A : Type 0} (S : List A) (from n : ℕ) (D : List A) (at : ℕ) : Type 0 where
  pub source : from + n ≤ length S
  pub room : at + n ≤ length D

-- what may be copied with the m elements of N from v on at hand
pub record CanCopyOpened {A : Type 0} (S : List A) (from n : ℕ) (N : List A) (v m : ℕ) (D : List A) (at : ℕ) : Type 0 where
  pub source : from + n ≤ length S
  pub room : at + n ≤ length D
  pub words : v + m ≤ length N

-- what may be moved: the n elements from `from` on, to `at` in the same list
pub record CanMove {A : Type 0} (D : List A) (from n at : ℕ) : Type 0 where
  pub inside : from + n ≤ length D
  pub room : at + n ≤ length D

-- what may be compared: n elements from i on and n from j on
pub record CanCompare {A : Type 0} (l : List A) (i : ℕ) (m : List A) (j n : ℕ) : Type 0 where
  pub left : i + n ≤ length l
  pub right : j + n ≤ length m

-- the n elements of l from i on. Shut, so that `_` is found for its arguments
unfoldable pub run : {A : Type 0} → ℕ → ℕ → List A → List A
run i n l = take n (drop i l)

-- D with the n elements from `at` on replaced by the first n of S. Shut, as `run`
unfoldable pub copied : {A : Type 0} → List A → ℕ → List A → ℕ → List A
copied D at S n = take at D ++ (take n S ++ drop (at + n) D)

-- X is D with the first n of S from `at` on
pub record Copied {A : Type 0} (D : List A) (at : ℕ) (S : List A) (n : ℕ) (X : List A) : Type 0 where
  pub list : X ≡ copied D at S n
  pub long : length X ≡ length D

module _ {A : Type 0} (D : List A) (at : ℕ) (S : List A) where
  pub as_paste : (n : ℕ) → copied D at S n ≡ paste D at S n
  unfolding copied
  as_paste n = sym (append_assoc (take at D) (take n S) (drop (at + n) D))

  pub copied_none : D ≡ copied D at S 0
  copied_none = paste-zero D at S ∙ sym (as_paste 0)

  pub length_copied : (n : ℕ) → at + n ≤ length D → n ≤ length S → length (copied D at S n) ≡ length D
  length_copied n hd hs = ap length (as_paste n) ∙ length-paste D at S n hd hs

  -- what stands before the end of the copy, and after it
  pub take_copied : (n : ℕ) → at ≤ length D → n ≤ length S → take (at + n) (copied D at S n) ≡ take at D ++ take n S
  take_copied n hd hs = ap (take (at + n)) (as_paste n) ∙ take-paste D at S n hd hs

  pub drop_copied : (n : ℕ) → at ≤ length D → n ≤ length S → drop (at + n) (copied D at S n) ≡ drop (at + n) D
  drop_copied n hd hs = ap (drop (at + n)) (as_paste n) ∙ drop-paste D at S n hd hs

  -- element by element: past the copy the list is as it was
  pub get_or_copied_past : (n k : ℕ) (d : A) → at ≤ length D → n ≤ length S → at + n ≤ k → get_or (copied D at S n) k d ≡ get_or D k d
  get_or_copied_past n k d hd hs hk =
      let p : List A = take at D ++ take n S in
      let e : at + n + (k - (at + n)) ≡ k = omega arith in
      let lp : length p ≡ at + n = length_paste_head D at S n hd hs in
      ap (λ (l : List A). get_or l k d) (as_paste n)
      ∙ ap (λ (m : ℕ). get_or (paste D at S n) m d) (sym (ap (λ (m : ℕ). m + (k - (at + n))) lp ∙ e))
      ∙ get_or-append-add p (drop (at + n) D) (k - (at + n)) d
      ∙ get_or-drop (at + n) D (k - (at + n)) d
      ∙ ap (λ (m : ℕ). get_or D m d) e

  -- before it too
  pub get_or_copied_before : (n k : ℕ) (d : A) → at ≤ length D → k < at → get_or (copied D at S n) k d ≡ get_or D k d
  unfolding copied
  get_or_copied_before n k d hd hk =
      get_or-append (take at D) (take n S ++ drop (at + n) D) d k (rw (length-take-le at D hd) hk) ∙ get_or-take at D k d hk

  -- and within it is what was copied
  pub get_or_copied_in : (n j : ℕ) (d : A) → at ≤ length D → n ≤ length S → j < n → get_or (copied D at S n) (at + j) d ≡ get_or S j d
  unfolding copied
  get_or_copied_in n j d hd hs hj =
      ap (λ (m : ℕ). get_or (copied D at S n) (m + j) d) (sym (length-take-le at D hd))
      ∙ get_or-append-add (take at D) (take n S ++ drop (at + n) D) j d
      ∙ get_or-append (take n S) (drop (at + n) D) d j (rw (length-take-le n S hs) hj)
      ∙ get_or-take n S j d hj

  -- a turn of a loop that copies: one store takes n elements to n + 1
  pub copied_more : (W X : List A) (n : ℕ) (v d : A) → W ≡ copied D at S n → v ≡ get_or S n d → at + n < length D → n < length S → Stored W (at + n) v X → X ≡ copied D at S (n + 1)
  copied_more W X n v d inv e hd hs p =
      p.list ∙ ap (λ (l : List A). set l (at + n) v) (inv ∙ as_paste n) ∙ ap (λ (x : A). set (paste D at S n) (at + n) x) e ∙ paste-suc D at S n d hd hs
      ∙ ap (paste D at S) (sym (add-one n)) ∙ sym (as_paste (n + 1))

-- an element of a mapped list
pub get_d_map : {A B : Type 0} (f : A → B) (l : List A) (i : ℕ) (a : A) (b : B) → i < length l → get_or (map f l) i b ≡ f (get_or l i a)
get_d_map f [] i a b h = absurd (not-suc-le-zero h)
get_d_map f (x ∷ l) zero a b h = refl
get_d_map f (x ∷ l) (suc i) a b h = get_d_map f l i a b (le_of_suc-le-suc h)

-- the length of what is left, mapped or not, is enough for n elements
pub length_rest : {A : Type 0} (l : List A) (from n : ℕ) → from + n ≤ length l → n ≤ length (drop from l)
length_rest l from n h = omega (arith, length-drop from l)

pub length_mapped : {A B : Type 0} (f : A → B) (l : List A) (from n : ℕ) → from + n ≤ length l → n ≤ length (map f (drop from l))
length_mapped f l from n h = omega (arith, length-drop from l, length-map (drop from l) f)

-- two runs are the same element by element
pub run_none : {A : Type 0} (i j : ℕ) (l m : List A) → run i 0 l ≡ run j 0 m
unfolding run
run_none i j l m = refl

pub run_more : {A : Type 0} (i j k : ℕ) (l m : List A) (d : A) → i + k < length l → j + k < length m → run i k l ≡ run j k m → get_or l (i + k) d ≡ get_or m (j + k) d → run i (k + 1) l ≡ run j (k + 1) m
unfolding run
run_more i j k l m d h g p e =
    let hl : k < length (drop i l) = simp length-drop (omega arith) in
    let hm : k < length (drop j m) = simp length-drop (omega arith) in
    rw (add-one, take-suc (drop i l) k d hl, take-suc (drop j m) k d hm, p, get_or-drop i l k d, get_or-drop j m k d, e)

pub run_differ : {A : Type 0} (i j k n : ℕ) (l m : List A) (d : A) → k < n → (get_or l (i + k) d ≡ get_or m (j + k) d → ⊥) → run i n l ≡ run j n m → ⊥
unfolding run
run_differ {A} i j k n l m d h ne p = ne (sym (get_or-take n (drop i l) k d h ∙ get_or-drop i l k d) ∙ ap (λ (t : List A). get_or t k d) p ∙ get_or-take n (drop j m) k d h ∙ get_or-drop j m k d)

-- an element and the length of a run
pub get_or_run : {A : Type 0} (i n : ℕ) (l : List A) (k : ℕ) (d : A) → k < n → get_or (run i n l) k d ≡ get_or l (i + k) d
unfolding run
get_or_run i n l k d h = get_or-take n (drop i l) k d h ∙ get_or-drop i l k d

pub length_run : {A : Type 0} (i n : ℕ) (l : List A) → i + n ≤ length l → length (run i n l) ≡ n
unfolding run
length_run i n l h = length-take-le n (drop i l) (omega (arith, length-drop i l))
