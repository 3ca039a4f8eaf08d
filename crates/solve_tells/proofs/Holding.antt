-- Holding an application against the class of a variable. Assumes nothing.
use mathlib.Core.Path.{◌≡◌, refl, ap, sym, ◌∙◌, subst}
use Rattle.std.specs.Prelude.{Result, Ok, Err}
use mathlib.Core.Logic.{◌↔◌}
use mathlib.Core.List.{List}
use Prim.Native.Nat.{ℕ, zero, suc, ◌+◌, ◌*◌, ◌/◌, ◌%◌, ◌≤◌, ◌<◌}
use native.Mathlib.Omega.{arith}
use lib.ListN.{length, get_or}
use Rattle.constraint.specs.Tree.{Label}
use Rattle.constraint.specs.Constraint.{Asg, In}
use Rattle.constraint.specs.Solve.{Bnd, free, fun}
use Rattle.constraint.proofs.FormSteps.{Holds}
use Rattle.mem_words.specs.declared.Word.{Word}
use Rattle.solve_cells.specs.Cells.{par, rep, Up, Found}
use Rattle.solve_cells.specs.Trail.{Saved, CanSave, grown_saved, grows_bound}
use Rattle.solve_classes.specs.Weights.{weights_stored, weight_free, weight_taken}
use Rattle.solve_classes.specs.Means.{bound, Fits, Pend, Apps, OldApps, OldVars}
use Rattle.solve_classes.proofs.Tables.{cell_cases, up_root, fits_rep, fits_holds, fits_bind, bound_yes, bound_no, holds_move, holds_none}
use Rattle.solve_classes.proofs.Linking.{root_cell, one_pend, one_apps, one_vars, one_in, within_saved, rep_in, apps_saved}
use Rattle.solve_fields.specs.Read.{term_at, tab_of, tree_at, Distinct}
use Rattle.solve_tells.specs.Reach.{vars_of}
use Rattle.solve_tells.specs.Steps.{Step, Sound, CanHold, Met, Meeting, Held, Holding}
use Rattle.solve_tells.specs.declared.Stop.{Stop}
use Rattle.solve_tells.specs.declared.Stop.TheVariants.{Clash, Full}
use Rattle.solve_tells.proofs.Trails.{step_none, pend_none, apps_none}

-- x is the application k: it has its tree
pub holds_tree : (lab : ℕ → Label) (W : List Word) (P : List ℕ) (ρ : Asg) (x k : ℕ) → Holds ρ x (tab_of lab W P k) ↔ (ρ x ≡ tree_at lab W ρ (get_or P k 0))
unfolding Holds tab_of term_at tree_at
holds_tree lab W P ρ x k = (λ h. h, λ h. h)

-- the class of x is bound to the application of its representative's cell
module _ (W : List Word) (P T : List ℕ) (U : Up T) (x r c : ℕ) (f : Found T x r) (e : c ≡ get_or T r 0) (t : c % 4 ≡ 2) where
  class_holds : (lab : ℕ → Label) (ρ : Asg) → Fits (tab_of lab W P) T ρ → ρ x ≡ tree_at lab W ρ (get_or P (c / 256) 0)
  class_holds lab ρ F =
      let h : Holds ρ r (tab_of lab W P (c / 256)) = subst (Holds ρ r) (ap (bound (tab_of lab W P)) (sym e) ∙ bound_yes (tab_of lab W P) c t) (fits_holds (tab_of lab W P) T ρ F r f.root) in
      fits_rep (tab_of lab W P) T U ρ F x ∙ ap ρ (sym f.is) ∙ (holds_tree lab W P ρ r (c / 256)).0 h

  pub held_same : (X C : List ℕ) (n k : ℕ) → Sound W T X C n → c / 256 ≡ k → Held W P T X C n x k T X C n
  held_same X C n k h q = record {
    step = step_none W T X C n h;
    apps = λ m l A. (A, apps_none C n m);
    means = λ lab ρ. (λ w. (w.0, pend_none (tab_of lab W P) X C n ρ), λ w. (w.0, (holds_tree lab W P ρ x k).1 (class_holds lab ρ w.0 ∙ ap (λ (i : ℕ). tree_at lab W ρ (get_or P i 0)) q)));
  }

  pub held_met : (X C : List ℕ) (n k p q : ℕ) (T' X' C' : List ℕ) (o : Result ℕ Stop) → p ≡ get_or P k 0 → q ≡ get_or P (c / 256) 0 → Meeting W T X C n p q T' X' C' o → Holding W P T X C n x k T' X' C' o
  held_met X C n k p q T' X' C' (Ok n') ep eq m = record {
    step = m.step;
    apps = λ i l A. m.apps i A;
    means = λ lab ρ. (λ w. (m.means lab (tab_of lab W P) ρ).0 (w.0, at lab ρ p k ep ∙ sym ((holds_tree lab W P ρ x k).0 w.1) ∙ class_holds lab ρ w.0 ∙ sym (at lab ρ q (c / 256) eq)), λ w. let u = (m.means lab (tab_of lab W P) ρ).1 w in (u.0, (holds_tree lab W P ρ x k).1 (class_holds lab ρ u.0 ∙ sym (at lab ρ q (c / 256) eq) ∙ sym u.1 ∙ at lab ρ p k ep)));
  }
    where
      at : (lab : ℕ → Label) (ρ : Asg) (i j : ℕ) → i ≡ get_or P j 0 → tree_at lab W ρ i ≡ tree_at lab W ρ (get_or P j 0)
      at lab ρ i j z = ap (tree_at lab W ρ) z
  held_met X C n k p q T' X' C' (Err (Clash n')) ep eq m = (m.0, λ lab d ρ F h. m.1 lab d (tab_of lab W P) ρ F (ap (tree_at lab W ρ) ep ∙ sym ((holds_tree lab W P ρ x k).0 h) ∙ class_holds lab ρ F ∙ sym (ap (tree_at lab W ρ) eq)))
  held_met X C n k p q T' X' C' (Err (Full n')) ep eq m = m

-- an unbound class is bound
pub held_bind : (W : List Word) (P T X C : List ℕ) (n x k r c d : ℕ) (T' X' C' : List ℕ) → CanHold W P T X C n x k → Found T x r → c ≡ get_or T r 0 → (c % 4 ≡ 2 → ⊥) → CanSave T X C n r d → Saved T X C n r d T' X' C' → d % 4 ≡ 2 → d / 256 ≡ k → d / 4 % 64 ≡ c / 4 % 64
    → Held W P T X C n x k T' X' C' (n + 1)
held_bind W P T X C n x k r c d T' X' C' h f e nb s g t v q = record {
  step = record { grown = grown_saved s (grows_bound (get_or T r 0) d t) g; up = U'; vars = one_vars s g; plain = cell_cases (λ (y d' : ℕ). d' % 4 ≡ 3 → get_or T y 0 % 4 ≡ 3) g.cells s.inside (λ z. absurd (omega arith)) (λ y q z. z); fit_x = omega (arith, s.room_x); fit_c = omega (arith, s.room_c); cost = omega (arith, weights_stored g.cells s.inside, weight_free (get_or T r 0) nl nr (h.sound.plain r), weight_taken d (λ z. omega arith) (λ z. omega arith)); within = within_saved s g (vars_of W) ir (λ z. absurd (omega arith)) h.sound.within; used = one_in s g (vars_of W) ir };
  apps = λ m l A. (apps_saved s g m (λ z. omega arith) A, one_apps s g m A);
  means = λ lab ρ. (λ w. ((b lab ρ).0 (w.0, subst (λ (i : ℕ). Holds ρ r (tab_of lab W P i)) (sym v) (holds_move ρ x r _ (to lab ρ w.0) w.1)), (one_pend s g (tab_of lab W P) ρ).0 (subst (Holds ρ r) (sym (none lab)) (holds_none ρ r))), λ w. let u = (b lab ρ).1 w.0 in (u.0, holds_move ρ r x _ (sym (to lab ρ u.0)) (subst (λ (i : ℕ). Holds ρ r (tab_of lab W P i)) v u.1)));
}
  where
    U : Up T
    U = h.sound.up

    ir : In r (vars_of W)
    ir = subst (λ (z : ℕ). In z (vars_of W)) (sym f.is) (rep_in (vars_of W) T h.sound.within x h.used)

    nl : get_or T r 0 % 4 ≡ 1 → ⊥
    nl = root_cell T U r f.root

    nr : get_or T r 0 % 4 ≡ 2 → ⊥
    nr z = nb (ap (λ (i : ℕ). i % 4) e ∙ z)

    U' : Up T'
    U' = up_root r d U g.cells s.inside (λ z. omega arith) nl (omega arith)

    b : (lab : ℕ → Label) (ρ : Asg) → (Fits (tab_of lab W P) T ρ × Holds ρ r (tab_of lab W P (d / 256))) ↔ Fits (tab_of lab W P) T' ρ
    b lab ρ = fits_bind (tab_of lab W P) r d U U' g.cells s.inside f.root nr t ρ

    to : (lab : ℕ → Label) (ρ : Asg) → Fits (tab_of lab W P) T ρ → ρ x ≡ ρ r
    to lab ρ F = fits_rep (tab_of lab W P) T U ρ F x ∙ ap ρ (sym f.is)

    none : (lab : ℕ → Label) → bound (tab_of lab W P) (get_or T r 0) ≡ free
    none lab = bound_no (tab_of lab W P) (get_or T r 0) nr
