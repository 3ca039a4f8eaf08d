-- Settling what joins took away, entry by entry. Assumes nothing.
use mathlib.Core.Path.{◌≡◌, refl, ap, sym, ◌∙◌, subst}
use Rattle.std.specs.Prelude.{Result, Ok, Err}
use mathlib.Core.Logic.{◌↔◌}
use mathlib.Core.List.{List}
use Prim.Native.Nat.{ℕ, zero, suc, ◌+◌, ◌*◌, ◌/◌, ◌%◌, ◌≤◌, ◌<◌}
use native.Mathlib.Omega.{arith}
use lib.ListN.{length, get_or}
use Rattle.constraint.specs.Tree.{Label}
use Rattle.constraint.specs.Constraint.{Asg, In}
use Rattle.constraint.specs.Solve.{Bnd, free, fun}
use Rattle.constraint.proofs.FormSteps.{Holds}
use Rattle.mem_words.specs.declared.Word.{Word}
use Rattle.solve_cells.specs.Cells.{par, rep, Up, Found}
use Rattle.solve_classes.specs.Means.{bound, Fits, Pend, Apps, OldApps, OldVars, OldIn}
use Rattle.solve_classes.proofs.Tables.{bound_yes, bound_no, holds_none}
use Rattle.solve_fields.specs.Read.{tab_of, Distinct}
use Rattle.solve_tells.specs.Reach.{vars_of}
use Rattle.solve_tells.specs.Steps.{Step, Sound, CanHold, CanSettle, Held, Holding, Settled, Settling}
use Rattle.solve_tells.specs.declared.Stop.{Stop}
use Rattle.solve_tells.specs.declared.Stop.TheVariants.{Clash, Full}
use Rattle.solve_tells.proofs.Trails.{step_none, step_then, pend_none, pend_first, pend_split, apps_split, vars_split, apps_less, vars_less, in_split, in_less, in_of, apps_of, vars_of_lem, filled_then}

-- what a loop over the entries has done by the i-th
pub record Settles (W : List Word) (P T₀ X₀ C₀ : List ℕ) (i₀ n₀ : ℕ) (T X C : List ℕ) (i n : ℕ) : Type 0 where
  pub step : Step W T₀ X₀ C₀ n₀ T X C n
  pub le : i ≤ n
  pub apps : (m : ℕ) → Apps T₀ m → OldApps C₀ i₀ n₀ m → Apps T m × OldApps C i n m
  pub vars : OldVars X i n (length T)
  pub used : OldIn X i n (vars_of W)
  pub means : (lab : ℕ → Label) (ρ : Asg) → (Fits (tab_of lab W P) T₀ ρ × Pend (tab_of lab W P) X₀ C₀ i₀ n₀ ρ) ↔ (Fits (tab_of lab W P) T ρ × Pend (tab_of lab W P) X C i n ρ)

pub settles_first : (W : List Word) (P T X C : List ℕ) (i n : ℕ) → CanSettle W P T X C i n → Settles W P T X C i n T X C i n
settles_first W P T X C i n h = record { step = step_none W T X C n h.sound; le = h.le; apps = λ m A O. (A, O); vars = h.vars; used = h.used; means = λ lab ρ. (λ w. w, λ w. w) }

module _ (W : List Word) (P T₀ X₀ C₀ : List ℕ) (i₀ n₀ : ℕ) (T X C : List ℕ) (i n x c : ℕ) (S : Settles W P T₀ X₀ C₀ i₀ n₀ T X C i n) (l : i < n) (ex : x ≡ get_or X i 0) (ec : c ≡ get_or C i 0) where
  first : (lab : ℕ → Label) (ρ : Asg) → Pend (tab_of lab W P) X C i n ρ ↔ (Holds ρ x (bound (tab_of lab W P) c) × Pend (tab_of lab W P) X C (i + 1) n ρ)
  first lab ρ = subst (λ (z : ℕ). Pend (tab_of lab W P) X C i n ρ ↔ (Holds ρ z (bound (tab_of lab W P) c) × Pend (tab_of lab W P) X C (i + 1) n ρ)) (sym ex)
      (subst (λ (z : ℕ). Pend (tab_of lab W P) X C i n ρ ↔ (Holds ρ (get_or X i 0) (bound (tab_of lab W P) z) × Pend (tab_of lab W P) X C (i + 1) n ρ)) (sym ec) (pend_first (tab_of lab W P) X C i n ρ l))

  -- an entry that took no binding away
  pub settles_skip : (c % 4 ≡ 2 → ⊥) → Settles W P T₀ X₀ C₀ i₀ n₀ T X C (i + 1) n
  settles_skip nb = record {
    step = S.step;
    le = omega arith;
    apps = λ m A O. let w = S.apps m A O in (w.0, apps_less C i (i + 1) n m (omega arith) w.1);
    vars = vars_less X i (i + 1) n (length T) (omega arith) S.vars;
    used = in_less X i (i + 1) n (vars_of W) (omega arith) S.used;
    means = λ lab ρ. (λ w. let u = (S.means lab ρ).0 w in (u.0, ((first lab ρ).0 u.1).1), λ w. (S.means lab ρ).1 (w.0, (first lab ρ).1 (subst (Holds ρ x) (sym (bound_no (tab_of lab W P) c nb)) (holds_none ρ x), w.1)));
  }

  at_app : (m : ℕ) → c % 4 ≡ 2 → OldApps C i n m → c / 256 < m
  at_app m t O = subst (λ (z : ℕ). z / 256 < m) (sym ec) (apps_of C i n m O i (omega arith) l (ap (λ (z : ℕ). z % 4) (sym ec) ∙ t))

  pub can_hold : CanSettle W P T₀ X₀ C₀ i₀ n₀ → c % 4 ≡ 2 → CanHold W P T X C n x (c / 256)
  can_hold h t =
      let a = S.apps (length P) h.apps h.olds in
      record {
        sound = record { up = S.step.up; vars = record { low = λ j. omega (arith, h.sound.vars.low j, S.step.grown.size_t) }; long = h.sound.long; fit_x = omega (arith, S.step.fit_x, S.step.grown.size_x); fit_c = omega (arith, S.step.fit_c, S.step.grown.size_c); plain = λ y z. h.sound.plain y (S.step.plain y z); within = S.step.within };
        var = subst (λ (z : ℕ). z < length T) (sym ex) (vars_of_lem X i n (length T) S.vars i (omega arith) l);
        used = subst (λ (z : ℕ). In z (vars_of W)) (sym ex) (in_of X i n (vars_of W) S.used i (omega arith) l);
        app = at_app (length P) t a.1;
        apps = a.0;
        size = h.size;
      }

  -- an entry whose binding was held
  module _ (t : c % 4 ≡ 2) (T' X' C' : List ℕ) (n' : ℕ) where
    pub settles_held : Held W P T X C n x (c / 256) T' X' C' n' → Settles W P T₀ X₀ C₀ i₀ n₀ T' X' C' (i + 1) n'
    settles_held H = record {
      step = step_then S.step H.step;
      le = omega (arith, H.step.grown.le);
      apps = λ m A O. let a = S.apps m A O in let b = H.apps m (at_app m t a.1) a.0 in (b.0, apps_split X C X' C' (i + 1) n n' ox oc m (apps_less C i (i + 1) n m (omega arith) a.1) b.1);
      vars = vars_split X C X' C' (i + 1) n n' ox oc (length T') (subst (OldVars X (i + 1) n) (sym H.step.grown.size_t) (vars_less X i (i + 1) n (length T) (omega arith) S.vars)) (subst (OldVars X' n n') (sym H.step.grown.size_t) H.step.vars);
      used = in_split X C X' C' (i + 1) n n' ox oc (vars_of W) (in_less X i (i + 1) n (vars_of W) (omega arith) S.used) H.step.used;
      means = λ lab ρ. (λ w. let u = (S.means lab ρ).0 w in let v = (first lab ρ).0 u.1 in let y = (H.means lab ρ).0 (u.0, subst (Holds ρ x) (bound_yes (tab_of lab W P) c t) v.0) in (y.0, (split lab ρ).0 (v.1, y.1)), λ w. let s = (split lab ρ).1 w.1 in let y = (H.means lab ρ).1 (w.0, s.1) in (S.means lab ρ).1 (y.0, (first lab ρ).1 (subst (Holds ρ x) (sym (bound_yes (tab_of lab W P) c t)) y.1, s.0)));
    }
      where
        ox : (j : ℕ) → j < n → get_or X' j 0 ≡ get_or X j 0
        ox = H.step.grown.old_x

        oc : (j : ℕ) → j < n → get_or C' j 0 ≡ get_or C j 0
        oc = H.step.grown.old_c

        split : (lab : ℕ → Label) (ρ : Asg) → (Pend (tab_of lab W P) X C (i + 1) n ρ × Pend (tab_of lab W P) X' C' n n' ρ) ↔ Pend (tab_of lab W P) X' C' (i + 1) n' ρ
        split lab ρ = pend_split X C X' C' (i + 1) n n' ox oc (tab_of lab W P) ρ (omega arith) H.step.grown.le

    pub settles_clash : Holding W P T X C n x (c / 256) T' X' C' (Err (Clash n')) → Settling W P T₀ X₀ C₀ i₀ n₀ T' X' C' (Err (Clash n'))
    settles_clash H = (step_then S.step H.0, λ lab d ρ F p. let u = (S.means lab ρ).0 (F, p) in H.1 lab d ρ u.0 (subst (Holds ρ x) (bound_yes (tab_of lab W P) c t) ((first lab ρ).0 u.1).0))

    pub settles_full : Holding W P T X C n x (c / 256) T' X' C' (Err (Full n')) → Settling W P T₀ X₀ C₀ i₀ n₀ T' X' C' (Err (Full n'))
    settles_full H = (step_then S.step H.0, filled_then X₀ C₀ X C n' S.step.grown.size_x S.step.grown.size_c H.1)

-- the same by how the holding went
module _ (W : List Word) (P T₀ X₀ C₀ : List ℕ) (i₀ n₀ : ℕ) (T X C : List ℕ) (i n x c : ℕ) (S : Settles W P T₀ X₀ C₀ i₀ n₀ T X C i n) (l : i < n) (ex : x ≡ get_or X i 0) (ec : c ≡ get_or C i 0) (t : c % 4 ≡ 2) (T' X' C' : List ℕ) (n' : ℕ) (o : Result ℕ Stop) (H : Holding W P T X C n x (c / 256) T' X' C' o) where
  pub went_on : o ≡ Ok n' → Settles W P T₀ X₀ C₀ i₀ n₀ T' X' C' (i + 1) n'
  went_on e = settles_held W P T₀ X₀ C₀ i₀ n₀ T X C i n x c S l ex ec t T' X' C' n' (subst (Holding W P T X C n x (c / 256) T' X' C') e H)

  pub went_clash : o ≡ Err (Clash n') → Settling W P T₀ X₀ C₀ i₀ n₀ T' X' C' (Err (Clash n'))
  went_clash e = settles_clash W P T₀ X₀ C₀ i₀ n₀ T X C i n x c S l ex ec t T' X' C' n' (subst (Holding W P T X C n x (c / 256) T' X' C') e H)

  pub went_full : o ≡ Err (Full n') → Settling W P T₀ X₀ C₀ i₀ n₀ T' X' C' (Err (Full n'))
  went_full e = settles_full W P T₀ X₀ C₀ i₀ n₀ T X C i n x c S l ex ec t T' X' C' n' (subst (Holding W P T X C n x (c / 256) T' X' C') e H)

pub went_stop : (W : List Word) (P T₀ X₀ C₀ : List ℕ) (i₀ n₀ : ℕ) (T X C : List ℕ) (i n x c : ℕ) (S : Settles W P T₀ X₀ C₀ i₀ n₀ T X C i n) (l : i < n) (ex : x ≡ get_or X i 0) (ec : c ≡ get_or C i 0) (t : c % 4 ≡ 2) (T' X' C' : List ℕ) (o : Result ℕ Stop) (H : Holding W P T X C n x (c / 256) T' X' C' o) (s : Stop) → o ≡ Err s → Settling W P T₀ X₀ C₀ i₀ n₀ T' X' C' (Err s)
went_stop W P T₀ X₀ C₀ i₀ n₀ T X C i n x c S l ex ec t T' X' C' o H (Clash m) = went_clash W P T₀ X₀ C₀ i₀ n₀ T X C i n x c S l ex ec t T' X' C' m o H
went_stop W P T₀ X₀ C₀ i₀ n₀ T X C i n x c S l ex ec t T' X' C' o H (Full m) = went_full W P T₀ X₀ C₀ i₀ n₀ T X C i n x c S l ex ec t T' X' C' m o H

pub settles_done : (W : List Word) (P T₀ X₀ C₀ : List ℕ) (i₀ n₀ : ℕ) (T X C : List ℕ) (i n : ℕ) → Settles W P T₀ X₀ C₀ i₀ n₀ T X C i n → n ≤ i → Settled W P T₀ X₀ C₀ i₀ n₀ T X C n
settles_done W P T₀ X₀ C₀ i₀ n₀ T X C i n S l = record {
  step = S.step;
  apps = λ m A O. (S.apps m A O).0;
  means = λ lab ρ. (λ w. ((S.means lab ρ).0 w).0, λ w. (S.means lab ρ).1 (w, subst (λ (j : ℕ). Pend (tab_of lab W P) X C j n ρ) (sym e) (pend_none (tab_of lab W P) X C n ρ)));
}
  where
    e : i ≡ n
    e = omega (arith, S.le)
