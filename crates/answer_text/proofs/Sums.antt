-- The length of a term counted argument by argument, and of a line counted variable by variable: what is counted so far
-- and the length of the rest, counted together, stay the same. Assumes nothing.
use mathlib.Core.Path.{◌≡◌, refl, ap, sym, ◌∙◌}
use mathlib.Core.List.{List, [], ◌∷◌}
use Prim.Native.Nat.{ℕ, suc, ◌+◌}
use native.Mathlib.Omega.{arith}
use lib.ListN.{length}
use Rattle.constraint.specs.Tree.{Label}
use Rattle.akl.specs.Base.{Name, decimal, size, range}
use Rattle.akl.specs.Answers.{Term, unbound, built, terms, position}
use Rattle.answer_text.specs.Lengths.{term_length, rest_length, bindings_length, cap}
use Rattle.answer_text.proofs.Caps.{cap_left, cap_right}

-- one more part c + t, of which t was counted as len, before the rest r
cap_next : (m acc c t len r : ℕ) → len ≡ cap m t → cap m (cap m (acc + c + len) + r) ≡ cap m (acc + (c + t + r))
cap_next m acc c t len r e =
    let p : acc + c + len + r ≡ acc + c + r + len = omega arith in
    let q : acc + c + r + t ≡ acc + (c + t + r) = omega arith in
    cap_left m (acc + c + len) r ∙ ap (cap m) p ∙ ap (λ (z : ℕ). cap m (acc + c + r + z)) e ∙ cap_right m (acc + c + r) t ∙ ap (cap m) q

module _ (f : ℕ → Term) (m : ℕ) (seen : List ℕ) where
  pub sum_unbound : (x r : ℕ) → f x ≡ unbound r → term_length (f x) seen ≡ 1 + length (decimal (position r seen))
  unfolding term_length
  sum_unbound x r e = ap (λ (t : Term). term_length t seen) e

  pub sum_constant : (x : ℕ) (l : Label) → f x ≡ built l (terms f []) → term_length (f x) seen ≡ length l
  unfolding term_length terms
  sum_constant x l e = let z : length l + 0 ≡ length l = omega arith in ap (λ (t : Term). term_length t seen) e ∙ z

  pub sum_start : (x y : ℕ) (l : Label) (ys : List ℕ) → f x ≡ built l (terms f (y ∷ ys)) → cap m (cap m (length l) + rest_length (terms f (y ∷ ys)) seen) ≡ cap m (term_length (f x) seen)
  unfolding term_length terms
  sum_start x y l ys e = cap_left m (length l) (rest_length (terms f (y ∷ ys)) seen) ∙ ap (λ (t : Term). cap m (term_length t seen)) (sym e)

  pub sum_next : (acc len y : ℕ) (ys : List ℕ) → len ≡ cap m (term_length (f y) seen) → cap m (cap m (acc + 1 + len) + rest_length (terms f ys) seen) ≡ cap m (acc + rest_length (terms f (y ∷ ys)) seen)
  unfolding term_length terms
  sum_next acc len y ys e = cap_next m acc 1 (term_length (f y) seen) len (rest_length (terms f ys) seen) e

  pub sum_end : (acc : ℕ) → cap m (acc + rest_length (terms f []) seen) ≡ cap m (acc + 1)
  unfolding term_length terms
  sum_end acc = refl

  -- the variables of a query from n on
  abbrev pub left_length : List Name → ℕ → ℕ
  left_length xs n = bindings_length xs (terms f (range n (size xs))) seen

  pub sum_line_next : (acc len n : ℕ) (x y : Name) (xs : List Name) → len ≡ cap m (term_length (f n) seen) → cap m (cap m (acc + (length x + 5) + len) + left_length (y ∷ xs) (suc n)) ≡ cap m (acc + left_length (x ∷ (y ∷ xs)) n)
  unfolding bindings_length terms size range
  sum_line_next acc len n x y xs e =
      let r = left_length (y ∷ xs) (suc n) in
      let t = term_length (f n) seen in
      let p : acc + (length x + 5 + t + r) ≡ acc + (length x + 3 + t + 2 + r) = omega arith in
      cap_next m acc (length x + 5) t len r e ∙ ap (cap m) p

  pub sum_line_last : (acc len n : ℕ) (x : Name) → len ≡ cap m (term_length (f n) seen) → cap m (acc + (length x + 3) + len) ≡ cap m (acc + left_length (x ∷ []) n)
  unfolding bindings_length terms size range
  sum_line_last acc len n x e =
      let t = term_length (f n) seen in
      let p : acc + (length x + 3) + t ≡ acc + (length x + 3 + t) = omega arith in
      ap (λ (z : ℕ). cap m (acc + (length x + 3) + z)) e ∙ cap_right m (acc + (length x + 3)) t ∙ ap (cap m) p
