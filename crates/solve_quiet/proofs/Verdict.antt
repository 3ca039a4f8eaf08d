-- A table without a cycle has a solution; the start. Assumes nothing.
use mathlib.Core.Path.{◌≡◌, refl, ap, sym, ◌∙◌, subst}
use mathlib.Core.Logic.{◌↔◌, ◌⊎◌, inl, inr}
use mathlib.Core.Bool.{Bool, true, false}
use mathlib.Core.List.{List, [], ◌∷◌, ◌++◌}
use Prim.Native.Nat.{ℕ, zero, suc, ◌+◌, ◌-◌, ◌/◌, ◌%◌, ◌≤◌, ◌<◌}
use native.Mathlib.Omega.{arith}
use native.Mathlib.Decide.{ℕ_discrete}
use lib.ListN.{length, get_or}
use Rattle.constraint.specs.Tree.{Label, Tree, node, fnil}
use Rattle.constraint.specs.Constraint.{Asg, Store, Sats, Satisfiable, In}
use Rattle.constraint.specs.Solve.{Bnd, free, fun}
use Rattle.constraint.proofs.Form.{Form, at, Solves, Below, Ranked, Of, build}
use Rattle.constraint.proofs.Forms.{solution, solution_solves}
use Rattle.mem_words.specs.declared.Word.{Word}
use Rattle.solve_cells.specs.Cells.{rep, par, Up}
use Rattle.solve_classes.specs.Means.{bound, Fits, Apps, OldVars, OldIn}
use Rattle.solve_cells.proofs.Climb.{rep_root, next_root}
use Rattle.solve_classes.proofs.Tables.{form_of, fits_form, bound_yes, bound_no}
use Rattle.solve_fields.specs.Read.{args_at, label_at, term_at, tab_of, Vars}
use Rattle.solve_tells.specs.Steps.{Sound}
use Rattle.solve_tells.specs.Tells.{State, Means}
use Rattle.solve_explores.specs.Search.{cell_of, Acyclic, Cyclic, Tested}
use Rattle.solve_quiet.specs.Solver.{Solved}

below_term : (lab : ℕ → Label) (W : List Word) (P : List ℕ) (k : ℕ) (rk : ℕ → ℕ) (r : ℕ) → ((y : ℕ) → In y (args_at W (get_or P k 0)) → rk y < r) → Below rk r (tab_of lab W P k)
unfolding tab_of term_at
below_term lab W P k rk r h = h

-- a table of classes as a form, with its ranks
pub ranked : (lab : ℕ → Label) (W : List Word) (P T : List ℕ) (U : Up T) → Acyclic W P T → Ranked (form_of (tab_of lab W P) T U)
unfolding form_of
ranked lab W P T U A = record { rk = A.rk; top = A.top; low = A.low; down = λ x. go x (ℕ_discrete (cell_of T x % 4) 2) }
  where
    go : (x : ℕ) → Dec (cell_of T x % 4 ≡ 2) → Below A.rk (A.rk x) (bound (tab_of lab W P) (cell_of T x))
    go x (yes e) = subst (Below A.rk (A.rk x)) (sym (bound_yes (tab_of lab W P) (cell_of T x) e)) (below_term lab W P (cell_of T x / 256) A.rk (A.rk x) (A.down x e))
    go x (no n) = subst (Below A.rk (A.rk x)) (sym (bound_no (tab_of lab W P) (cell_of T x) n)) tt

pub form_of_lem : (lab : ℕ → Label) (W : List Word) (P T : List ℕ) (U : Up T) (σ : Store) → Means lab W P T σ → Of (form_of (tab_of lab W P) T U) σ
unfolding Means
form_of_lem lab W P T U σ m ρ = (λ s. (fits_form (tab_of lab W P) T U ρ).0 ((m ρ).0 s), λ s. (m ρ).1 ((fits_form (tab_of lab W P) T U ρ).1 s))

pub solved : (W : List Word) (P T : List ℕ) (r : Bool) → Up T → Tested W P T r → Solved W P T r
unfolding Means
solved W P T true U A = record { tested = A; right = λ lab σ m. let R = ranked lab W P T U A in let π : Asg = λ x. node [] fnil in (solution (form_of (tab_of lab W P) T U) R π, (form_of_lem lab W P T U σ m (solution (form_of (tab_of lab W P) T U) R π)).1 (solution_solves (form_of (tab_of lab W P) T U) R π)) }
solved W P T false U A = record { tested = A; right = λ lab σ m s. A lab s.0 ((m s.0).0 s.1) }

-- a table of zeros: nothing was told
module _ (W : List Word) (P T X C : List ℕ) (zeros : (x : ℕ) → get_or T x 0 ≡ 0) where
  roots : (x : ℕ) → rep T x ≡ x
  roots x = rep_root T x (next_root (get_or T x 0) x (λ e. omega (arith, zeros x)))

  pub start_up : length T ≤ 65536 → Up T
  start_up l = record { fall = λ x e. absurd (omega (arith, zeros x)); inside = λ x e. absurd (omega (arith, zeros x)); size = l }

  pub start_state : length T ≤ 65536 → length P ≤ 65536 → length W < 4294967296 → Vars W (length T) → State W P T X C 0 0
  unfolding Apps OldVars OldIn
  start_state lt lp lw v = record { sound = record { up = start_up lt; vars = v; long = lw; fit_x = omega arith; fit_c = omega arith; plain = λ x e. omega (arith, zeros x); within = record { cells = λ x. inl (omega (arith, zeros x)); links = λ x e. absurd (omega (arith, zeros x)) } }; apps = λ x e. absurd (omega (arith, zeros x)); fit_p = omega arith; size = lp; vars = λ t a b. absurd (omega arith); used = λ t a b. absurd (omega arith); cost = omega arith }

  pub start_means : (lab : ℕ → Label) → Means lab W P T []
  unfolding Means Fits
  start_means lab ρ = (λ s x. ap ρ (sym (roots x)) ∙ sym (ap (build ρ (ρ (rep T x))) (bound_no (tab_of lab W P) (get_or T (rep T x) 0) (λ e. omega (arith, zeros (rep T x))))), λ f. tt)
