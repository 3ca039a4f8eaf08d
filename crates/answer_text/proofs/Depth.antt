-- More depth changes nothing, and one more than the number of applications is enough. Assumes nothing.
use mathlib.Core.Path.{◌≡◌, ap, sym, ◌∙◌, subst}
use mathlib.Core.Logic.{inl, inr}
use mathlib.Core.List.{List, [], ◌∷◌}
use Prim.Native.Nat.{ℕ, zero, suc, ◌/◌, ◌%◌, ◌≤◌, ◌<◌}
use native.Mathlib.Omega.{arith}
use native.Mathlib.Decide.{ℕ_discrete}
use lib.ListN.{get_or}
use Rattle.constraint.specs.Tree.{Label}
use Rattle.constraint.specs.Constraint.{In}
use Rattle.constraint.specs.Solve.{Bnd, free}
use Rattle.akl.specs.Answers.{Term, unbound, built, terms, term_of}
use Rattle.mem_words.specs.declared.Word.{Word}
use Rattle.solve_cells.specs.Cells.{rep}
use Rattle.solve_classes.specs.Means.{bound, Apps}
use Rattle.solve_classes.proofs.Tables.{bound_yes, bound_no}
use Rattle.solve_fields.specs.Read.{label_at, args_at, term_at, tab_of}
use Rattle.solve_explores.specs.Search.{cell_of, Acyclic}
use Rattle.solve_quiet.specs.View.{Free, Term as BoundTo}
use Rattle.answer_text.specs.Tabled.{term_by, tab_term, whole_term}
use Rattle.answer_text.proofs.Absent.{absent, absent_less, absent_most}
use Rattle.answer_text.proofs.Values.{terms_agree}

-- ---------------------------------------------------------------------------------------------
-- One step down.

module _ (lab : ℕ → Label) (W : List Word) (P T : List ℕ) (n x : ℕ) where
  pub step_free : bound (tab_of lab W P) (cell_of T x) ≡ free → tab_term lab W P T (suc n) x ≡ unbound (rep T x)
  unfolding tab_term term_by
  step_free e = ap (term_of (tab_term lab W P T n) (rep T x)) e

  pub step_bound : (p : ℕ) → bound (tab_of lab W P) (cell_of T x) ≡ term_at lab W p → tab_term lab W P T (suc n) x ≡ built (lab (label_at W p)) (terms (tab_term lab W P T n) (args_at W p))
  unfolding tab_term term_by term_at
  step_bound p e = ap (term_of (tab_term lab W P T n) (rep T x)) e

bound_app : (lab : ℕ → Label) (W : List Word) (P T : List ℕ) (x : ℕ) → cell_of T x % 4 ≡ 2 → bound (tab_of lab W P) (cell_of T x) ≡ term_at lab W (get_or P (cell_of T x / 256) 0)
unfolding tab_of
bound_app lab W P T x e = bound_yes (tab_of lab W P) (cell_of T x) e

at_term : (f : ℕ → Term) (lab : ℕ → Label) (W : List Word) (r p : ℕ) (b : Bnd) → b ≡ term_at lab W p → term_of f r b ≡ built (lab (label_at W p)) (terms f (args_at W p))
unfolding term_at
at_term f lab W r p b e = ap (term_of f r) e

-- ---------------------------------------------------------------------------------------------
-- Enough depth. Going down, no application is met twice: its arguments would be below themselves.

module _ (lab : ℕ → Label) (W : List Word) (P T : List ℕ) (A : Acyclic W P T) where
  -- above x: every application of the list has an argument that is no lower
  abbrev Above : ℕ → List ℕ → Type 0
  Above x L = (k : ℕ) → In k L → (y : ℕ) × In y (args_at W (get_or P k 0)) × (A.rk x ≤ A.rk y)

  deep : (a : ℕ) → Apps T a → (n : ℕ) (L : List ℕ) (x m : ℕ) → Above x L → absent a L < n → A.rk x < m → tab_term lab W P T n x ≡ tab_term lab W P T m x
  unfolding Apps
  deep a ap' zero L x m h l k = absurd (omega arith)
  deep a ap' (suc n) L x zero h l k = absurd (omega arith)
  deep a ap' (suc n) L x (suc m) h l k = go (ℕ_discrete (cell_of T x % 4) 2) (λ L' y. deep a ap' n L' y m)
    where
      go : Dec (cell_of T x % 4 ≡ 2) → ((L' : List ℕ) (y : ℕ) → Above y L' → absent a L' < n → A.rk y < m → tab_term lab W P T n y ≡ tab_term lab W P T m y) → tab_term lab W P T (suc n) x ≡ tab_term lab W P T (suc m) x
      go (no d) ih = let e = bound_no (tab_of lab W P) (cell_of T x) d in step_free lab W P T n x e ∙ sym (step_free lab W P T m x e)
      go (yes e) ih = step_bound lab W P T n x (get_or P c 0) b ∙ ap (built (lab (label_at W (get_or P c 0)))) (terms_agree (tab_term lab W P T n) (tab_term lab W P T m) (args_at W (get_or P c 0)) each) ∙ sym (step_bound lab W P T m x (get_or P c 0) b)
        where
          c : ℕ
          c = cell_of T x / 256

          b : bound (tab_of lab W P) (cell_of T x) ≡ term_at lab W (get_or P c 0)
          b = bound_app lab W P T x e

          new : In c L → ⊥
          new i = let w = h c i in omega (arith, A.down x e w.0 w.1, w.2)

          each : (y : ℕ) → In y (args_at W (get_or P c 0)) → tab_term lab W P T n y ≡ tab_term lab W P T m y
          each y i = ih (c ∷ L) y over (omega (arith, absent_less a c L (ap' (rep T x) e) new)) (omega (arith, A.down x e y i))
            where
              over : Above y (c ∷ L)
              over j (inl q) = (y, subst (λ z. In y (args_at W (get_or P z 0))) (sym q) i, omega arith)
              over j (inr o) = let w = h j o in (w.0, w.1, omega (arith, w.2, A.down x e y i))

  -- more depth than x's rank changes nothing
  pub term_enough : (n m x : ℕ) → A.rk x < n → A.rk x < m → tab_term lab W P T n x ≡ tab_term lab W P T m x
  term_enough zero m x l k = absurd (omega arith)
  term_enough (suc n) zero x l k = absurd (omega arith)
  term_enough (suc n) (suc m) x l k = go (ℕ_discrete (cell_of T x % 4) 2) (λ y. term_enough n m y)
    where
      go : Dec (cell_of T x % 4 ≡ 2) → ((y : ℕ) → A.rk y < n → A.rk y < m → tab_term lab W P T n y ≡ tab_term lab W P T m y) → tab_term lab W P T (suc n) x ≡ tab_term lab W P T (suc m) x
      go (no d) ih = let e = bound_no (tab_of lab W P) (cell_of T x) d in step_free lab W P T n x e ∙ sym (step_free lab W P T m x e)
      go (yes e) ih =
          let p = get_or P (cell_of T x / 256) 0 in
          let b = bound_app lab W P T x e in
          step_bound lab W P T n x p b ∙ ap (built (lab (label_at W p))) (terms_agree (tab_term lab W P T n) (tab_term lab W P T m) (args_at W p) (λ y i. ih y (omega (arith, A.down x e y i)) (omega (arith, A.down x e y i)))) ∙ sym (step_bound lab W P T m x p b)

  module _ (a : ℕ) (apps : Apps T a) where
    -- neither does more than one for each application
    pub whole_enough : (m x : ℕ) → A.rk x < m → whole_term lab W P T a x ≡ tab_term lab W P T m x
    unfolding whole_term
    whole_enough m x l = deep a apps (suc a) [] x m (λ k i. absurd i) (omega (arith, absent_most a [])) l

    -- so a whole term is its label and the whole terms of its arguments
    pub whole_step : (x : ℕ) → whole_term lab W P T a x ≡ term_of (whole_term lab W P T a) (rep T x) (bound (tab_of lab W P) (cell_of T x))
    whole_step x = whole_enough (suc (suc (A.rk x))) x (omega arith) ∙ go (ℕ_discrete (cell_of T x % 4) 2)
      where
        go : Dec (cell_of T x % 4 ≡ 2) → tab_term lab W P T (suc (suc (A.rk x))) x ≡ term_of (whole_term lab W P T a) (rep T x) (bound (tab_of lab W P) (cell_of T x))
        go (no d) = let e = bound_no (tab_of lab W P) (cell_of T x) d in step_free lab W P T (suc (A.rk x)) x e ∙ sym (ap (term_of (whole_term lab W P T a) (rep T x)) e)
        go (yes e) =
            let p = get_or P (cell_of T x / 256) 0 in
            let b = bound_app lab W P T x e in
            step_bound lab W P T (suc (A.rk x)) x p b ∙ ap (built (lab (label_at W p))) (terms_agree (tab_term lab W P T (suc (A.rk x))) (whole_term lab W P T a) (args_at W p) (λ y i. sym (whole_enough (suc (A.rk x)) y (omega (arith, A.down x e y i))))) ∙ sym (at_term (whole_term lab W P T a) lab W (rep T x) p (bound (tab_of lab W P) (cell_of T x)) b)

    -- as the code views a variable
    pub whole_free : (x r : ℕ) → Free P T x r → whole_term lab W P T a x ≡ unbound r
    whole_free x r f = whole_step x ∙ ap (term_of (whole_term lab W P T a) (rep T x)) (f.binding lab W) ∙ ap unbound (sym f.class)

    pub whole_bound : (x r p : ℕ) → BoundTo P T x r p → whole_term lab W P T a x ≡ built (lab (label_at W p)) (terms (whole_term lab W P T a) (args_at W p))
    whole_bound x r p f = whole_step x ∙ at_term (whole_term lab W P T a) lab W (rep T x) p (bound (tab_of lab W P) (cell_of T x)) (f.binding lab W)

-- variables of one class have one term
pub whole_class : (lab : ℕ → Label) (W : List Word) (P T : List ℕ) (a x y : ℕ) → rep T x ≡ rep T y → whole_term lab W P T a x ≡ whole_term lab W P T a y
unfolding whole_term tab_term term_by
whole_class lab W P T a x y e = ap (λ (r : ℕ). term_of (term_by (rep T) (λ z. bound (tab_of lab W P) (get_or T z 0)) a) r (bound (tab_of lab W P) (get_or T r 0))) e
