-- A stack of classes, each an argument of the one below, is no higher than there are applications. Assumes nothing.
use mathlib.Core.Path.{sym, subst}
use mathlib.Core.Logic.{inl, inr}
use mathlib.Core.List.{List, [], ◌∷◌}
use Prim.Native.Nat.{ℕ, zero, suc, ◌+◌, ◌/◌, ◌≤◌}
use native.Mathlib.Omega.{arith}
use lib.ListN.{get_or}
use Rattle.constraint.specs.Constraint.{In}
use Rattle.mem_words.specs.declared.Word.{Word}
use Rattle.solve_cells.specs.Cells.{rep}
use Rattle.solve_classes.specs.Means.{Apps}
use Rattle.solve_fields.specs.Read.{args_at}
use Rattle.solve_explores.specs.Search.{cell_of, Acyclic}
use Rattle.answer_text.specs.Chains.{Chain}
use Rattle.answer_text.proofs.Absent.{absent, absent_less, absent_most}

module _ (W : List Word) (P T : List ℕ) (A : Acyclic W P T) (a : ℕ) (apps : Apps T a) (K : ℕ → ℕ) where
  -- the application of the variable at s
  abbrev app : ℕ → ℕ
  app s = cell_of T (K s) / 256

  apps_of : ℕ → List ℕ
  apps_of zero = []
  apps_of (suc h) = app h ∷ apps_of h

  lower : (h : ℕ) → Chain W P T K (suc h) → Chain W P T K h
  lower h c = record { bound = λ s l. c.bound s (omega arith); linked = λ s l. c.linked s (omega arith) }

  above : (h : ℕ) → Chain W P T K (suc h) → (k : ℕ) → In k (apps_of h) → (y : ℕ) × In y (args_at W (get_or P k 0)) × (A.rk (K h) ≤ A.rk y)
  unfolding apps_of
  above zero c k i = absurd i
  above (suc h) c k (inl e) = (K (suc h), subst (λ (z : ℕ). In (K (suc h)) (args_at W (get_or P z 0))) (sym e) (c.linked h (omega arith)), omega arith)
  above (suc h) c k (inr i) =
      let w = above h (lower (suc h) c) k i in
      (w.0, w.1, omega (arith, w.2, A.down (K h) (c.bound h (omega arith)) (K (suc h)) (c.linked h (omega arith))))

  counted : (h : ℕ) → Chain W P T K h → absent a (apps_of h) + h ≤ a
  unfolding apps_of Apps
  counted zero c = omega (arith, absent_most a [])
  counted (suc h) c = omega (arith, counted h (lower h c), absent_less a (app h) (apps_of h) (apps (rep T (K h)) (c.bound h (omega arith))) new)
    where
      new : In (app h) (apps_of h) → ⊥
      new i = let w = above h c (app h) i in omega (arith, w.2, A.down (K h) (c.bound h (omega arith)) w.0 w.1)

  pub chain_short : (h : ℕ) → Chain W P T K h → h ≤ a
  chain_short h c = omega (arith, counted h c)
