-- One law for each binding of an answer: the text so far and what is to come stay the whole line. Assumes nothing.
use mathlib.Core.Path.{◌≡◌, refl, ap, sym, ◌∙◌}
use mathlib.Core.List.{List, [], ◌∷◌, ◌++◌, append_assoc}
use Prim.Native.Nat.{ℕ, suc, ◌+◌}
use native.Mathlib.Omega.{arith}
use Rattle.akl.specs.Base.{Name, bytes, size, range}
use Rattle.akl.specs.Answers.{Term, Terms, no_terms, more_terms, terms, unknowns, unknowns_all, term_text, bindings_text, line_text}
use Rattle.answer_walk.specs.Line.{terms_from, Lining}
use Rattle.answer_walk.proofs.Prefix.{bindings_one, bindings_more}

-- one binding
abbrev pub binding : Name → Term → List ℕ → List ℕ
binding x t s = x ++ bytes " = " ++ term_text t (unknowns t s)

module _ (f : ℕ → Term) where
  from_one : (i : ℕ) (x : Name) → terms_from f i (x ∷ []) ≡ more_terms (f i) no_terms
  unfolding terms_from terms range size
  from_one i x = refl

  from_more : (i : ℕ) (x : Name) (ys : List Name) → terms_from f i (x ∷ ys) ≡ more_terms (f i) (terms_from f (suc i) ys)
  unfolding terms_from terms range size
  from_more i x ys = refl

  -- the whole line
  pub line_begin : (x : Name) (xs : List Name) → Lining f 0 (x ∷ xs) [] [] (line_text (x ∷ xs) (terms f (range 0 (size (x ∷ xs)))))
  unfolding terms_from
  line_begin x xs = record { text = refl }

  -- a binding that is not the last, and `, `
  pub line_more : {s D A : List ℕ} (i : ℕ) (x y : Name) (ys : List Name) → Lining f i (x ∷ (y ∷ ys)) s D A → Lining f (i + 1) (y ∷ ys) (unknowns (f i) s) (D ++ (binding x (f i) s ++ bytes ", ")) A
  line_more {s} {D} {A} i x y ys h = record { text = ap (λ (k : ℕ). (D ++ (binding x (f i) s ++ bytes ", ")) ++ rest k) n ∙ append_assoc D (binding x (f i) s ++ bytes ", ") (rest (suc i)) ∙ ap (λ (z : List ℕ). D ++ z) (sym (ap (λ (ts : Terms). bindings_text (x ∷ (y ∷ ys)) ts (unknowns_all ts s)) (from_more i x (y ∷ ys)) ∙ bindings_more x y ys (f i) (terms_from f (suc i) (y ∷ ys)) s)) ∙ h.text }
    where
      n : i + 1 ≡ suc i
      n = omega arith

      rest : ℕ → List ℕ
      rest k = bindings_text (y ∷ ys) (terms_from f k (y ∷ ys)) (unknowns_all (terms_from f k (y ∷ ys)) (unknowns (f i) s))

  -- the last one
  pub line_last : {s D A : List ℕ} (i : ℕ) (x : Name) → Lining f i (x ∷ []) s D A → D ++ binding x (f i) s ≡ A
  line_last {s} {D} {A} i x h = ap (λ (z : List ℕ). D ++ z) (sym (ap (λ (ts : Terms). bindings_text (x ∷ []) ts (unknowns_all ts s)) (from_one i x) ∙ bindings_one x (f i) s)) ∙ h.text
