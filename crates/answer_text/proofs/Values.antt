-- The terms of a form under a solution, and at any depth that is enough. Assumes nothing.
use mathlib.Core.Path.{◌≡◌, refl, ap, sym, ◌∙◌, subst}
use mathlib.Core.Logic.{inl, inr}
use mathlib.Core.List.{List, [], ◌∷◌}
use Prim.Native.Nat.{ℕ, zero, suc, ◌<◌}
use native.Mathlib.Omega.{arith}
use Rattle.constraint.specs.Tree.{node, fcons}
use Rattle.constraint.specs.Constraint.{Asg, trees, In}
use Rattle.constraint.specs.Solve.{Bnd, free, fun}
use Rattle.constraint.proofs.Form.{Form, build, Solves, Below, Ranked}
use Rattle.constraint.proofs.Forms.{solution, solution_eq, solution_free}
use Rattle.akl.specs.Answers.{Term, more_terms, terms, term_of}
use Rattle.runs.specs.Shown.{tree_of, forest_of}
use Rattle.answer_text.specs.Tabled.{term_by}

pub terms_agree : (f g : ℕ → Term) (ys : List ℕ) → ((y : ℕ) → In y ys → f y ≡ g y) → terms f ys ≡ terms g ys
unfolding terms
terms_agree f g [] h = refl
terms_agree f g (y ∷ ys) h = λ i. more_terms (h y (inl refl) i) (terms_agree f g ys (λ z j. h z (inr j)) i)

pub forest_terms : (f : ℕ → Term) (τ ρ : Asg) (ys : List ℕ) → ((y : ℕ) → In y ys → tree_of (f y) τ ≡ ρ y) → forest_of (terms f ys) τ ≡ trees ρ ys
unfolding terms
forest_terms f τ ρ [] h = refl
forest_terms f τ ρ (y ∷ ys) h = λ i. fcons (h y (inl refl) i) (forest_terms f τ ρ ys (λ z j. h z (inr j)) i)

module _ (F : Form) where
  -- every choice of trees for the unknowns is met by a solution that gives each variable the tree of its term, where ranks
  -- are below n
  pub value_solution : (R : Ranked F) (τ : Asg) (n x : ℕ) → R.rk x < n → tree_of (term_by F.rep F.bnd n x) τ ≡ solution F R τ x
  unfolding term_by
  value_solution R τ zero x l = absurd (omega arith)
  value_solution R τ (suc n) x l = go (F.bnd (F.rep x)) refl (R.down x) (λ y k. value_solution R τ n y k)
    where
      go : (b : Bnd) → F.bnd (F.rep x) ≡ b → Below R.rk (R.rk x) (F.bnd (F.rep x)) → ((y : ℕ) → R.rk y < n → tree_of (term_by F.rep F.bnd n y) τ ≡ solution F R τ y) → tree_of (term_of (term_by F.rep F.bnd n) (F.rep x) b) τ ≡ solution F R τ x
      go free e w ih = sym (solution_free F R τ x e)
      go (fun f ys) e w ih = ap (node f) (forest_terms (term_by F.rep F.bnd n) τ (solution F R τ) ys (λ y i. ih y (omega (arith, subst (Below R.rk (R.rk x)) e w y i)))) ∙ sym (solution_eq F R τ x ∙ ap (build (solution F R τ) (τ (F.rep x))) e)

  -- and every solution gives them so, its own values being those of the unknowns
  pub value_solves : (ρ : Asg) → Solves ρ F → (n x : ℕ) → tree_of (term_by F.rep F.bnd n x) ρ ≡ ρ x
  unfolding term_by
  value_solves ρ h zero x = sym (h x ∙ sym (h (F.rep x) ∙ ap (λ v. build ρ (ρ v) (F.bnd v)) (F.idem x)))
  value_solves ρ h (suc n) x = go (F.bnd (F.rep x)) refl (λ y. value_solves ρ h n y)
    where
      same : (y : ℕ) → ρ y ≡ ρ (F.rep y)
      same y = h y ∙ sym (h (F.rep y) ∙ ap (λ v. build ρ (ρ v) (F.bnd v)) (F.idem y))

      go : (b : Bnd) → F.bnd (F.rep x) ≡ b → ((y : ℕ) → tree_of (term_by F.rep F.bnd n y) ρ ≡ ρ y) → tree_of (term_of (term_by F.rep F.bnd n) (F.rep x) b) ρ ≡ ρ x
      go free e ih = sym (same x)
      go (fun f ys) e ih = ap (node f) (forest_terms (term_by F.rep F.bnd n) ρ ρ ys (λ y i. ih y)) ∙ sym (h x ∙ ap (build ρ (ρ (F.rep x))) e)
