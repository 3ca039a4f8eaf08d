-- One constraint: a join or a holding, and then what it took away is settled. Assumes nothing.
use mathlib.Core.Path.{◌≡◌, refl, ap, sym, ◌∙◌, subst}
use Rattle.std.specs.Prelude.{Result, Ok, Err}
use mathlib.Core.Logic.{◌↔◌}
use mathlib.Core.List.{List}
use Prim.Native.Nat.{ℕ, zero, suc, ◌+◌, ◌≤◌, ◌<◌}
use native.Mathlib.Omega.{arith}
use lib.ListN.{length, get_or}
use Rattle.constraint.specs.Tree.{Label}
use Rattle.constraint.specs.Constraint.{Asg, In}
use Rattle.constraint.proofs.FormSteps.{Holds}
use Rattle.mem_words.specs.declared.Word.{Word}
use Rattle.solve_classes.specs.Means.{Fits, Pend, Apps, OldApps, OldVars, Within, Joined}
use Rattle.solve_fields.specs.Read.{tab_of, Distinct}
use Rattle.solve_tells.specs.Reach.{vars_of}
use Rattle.solve_tells.specs.Steps.{Step, Sound, Held, Holding, CanSettle, Settled, Settling}
use Rattle.solve_tells.specs.declared.Stop.{Stop}
use Rattle.solve_tells.specs.declared.Stop.TheVariants.{Clash, Full}
use Rattle.solve_tells.proofs.Trails.{step_then, step_joined, filled_then}
use Rattle.solve_tells.specs.Takes.{CanEquate, CanApply, Took, Taking}

-- a constraint was taken in, and the trail's entries from n on are still to settle
pub record Taken (W : List Word) (P T X C : List ℕ) (n b : ℕ) (Q : (ℕ → Label) → Asg → Type 0) (T₁ X₁ C₁ : List ℕ) (m : ℕ) : Type 0 where
  pub step : Step W T X C n T₁ X₁ C₁ m
  pub apps : (i : ℕ) → b ≤ i → Apps T i → Apps T₁ i × OldApps C₁ n m i
  pub means : (lab : ℕ → Label) (ρ : Asg) → (Fits (tab_of lab W P) T ρ × Q lab ρ) ↔ (Fits (tab_of lab W P) T₁ ρ × Pend (tab_of lab W P) X₁ C₁ n m ρ)

pub taken_joined : (W : List Word) (P T X C : List ℕ) (n x y : ℕ) (T₁ X₁ C₁ : List ℕ) (m : ℕ) → Joined T X C n x y T₁ X₁ C₁ m → In x (vars_of W) → In y (vars_of W) → Within (vars_of W) T → n + 2 ≤ length X → n + 2 ≤ length C → Taken W P T X C n 0 (λ lab ρ. ρ x ≡ ρ y) T₁ X₁ C₁ m
taken_joined W P T X C n x y T₁ X₁ C₁ m j ix iy w rx rc = record { step = step_joined W j ix iy w rx rc; apps = λ i l A. j.apps i A; means = λ lab ρ. j.means (tab_of lab W P) ρ }

pub taken_held : (W : List Word) (P T X C : List ℕ) (n x k : ℕ) (T₁ X₁ C₁ : List ℕ) (m : ℕ) (o : Result ℕ Stop) → Holding W P T X C n x k T₁ X₁ C₁ o → o ≡ Ok m → Taken W P T X C n (k + 1) (λ lab ρ. Holds ρ x (tab_of lab W P k)) T₁ X₁ C₁ m
taken_held W P T X C n x k T₁ X₁ C₁ m o h e = let g : Held W P T X C n x k T₁ X₁ C₁ m = subst (Holding W P T X C n x k T₁ X₁ C₁) e h in record { step = g.step; apps = λ i l A. g.apps i (omega arith) A; means = g.means }

pub held_stop : (W : List Word) (P T X C : List ℕ) (n x k : ℕ) (T₁ X₁ C₁ : List ℕ) (b : ℕ) (o : Result ℕ Stop) → Holding W P T X C n x k T₁ X₁ C₁ o → (s : Stop) → o ≡ Err s → Taking W P T X C n b (λ lab ρ. Holds ρ x (tab_of lab W P k)) T₁ X₁ C₁ (Err s)
held_stop W P T X C n x k T₁ X₁ C₁ b o h (Clash m) e = subst (Holding W P T X C n x k T₁ X₁ C₁) e h
held_stop W P T X C n x k T₁ X₁ C₁ b o h (Full m) e = subst (Holding W P T X C n x k T₁ X₁ C₁) e h

module _ (W : List Word) (P T X C : List ℕ) (n b : ℕ) (Q : (ℕ → Label) → Asg → Type 0) (T₁ X₁ C₁ : List ℕ) (m : ℕ) (K : Taken W P T X C n b Q T₁ X₁ C₁ m) where
  pub can_settle : Sound W T X C n → Apps T (length P) → length P ≤ 65536 → b ≤ length P → CanSettle W P T₁ X₁ C₁ n m
  can_settle s A z l =
      let a = K.apps (length P) l A in
      record {
        sound = record { up = K.step.up; vars = record { low = λ j. omega (arith, s.vars.low j, K.step.grown.size_t) }; long = s.long; fit_x = omega (arith, K.step.fit_x, K.step.grown.size_x); fit_c = omega (arith, K.step.fit_c, K.step.grown.size_c); plain = λ y z. s.plain y (K.step.plain y z); within = K.step.within };
        le = K.step.grown.le;
        apps = a.0;
        olds = a.1;
        vars = subst (OldVars X₁ n m) (sym K.step.grown.size_t) K.step.vars;
        used = K.step.used;
        size = z;
      }

  pub taking_settled : (T₂ X₂ C₂ : List ℕ) (o : Result ℕ Stop) → Settling W P T₁ X₁ C₁ n m T₂ X₂ C₂ o → Taking W P T X C n b Q T₂ X₂ C₂ o
  taking_settled T₂ X₂ C₂ (Ok n') s = record {
    step = step_then K.step s.step;
    apps = λ i l A. let a = K.apps i l A in s.apps i a.0 a.1;
    means = λ lab ρ. (λ w. (s.means lab ρ).0 ((K.means lab ρ).0 w), λ w. (K.means lab ρ).1 ((s.means lab ρ).1 w));
  }
  taking_settled T₂ X₂ C₂ (Err (Clash n')) s = (step_then K.step s.0, λ lab d ρ F q. let w = (K.means lab ρ).0 (F, q) in s.1 lab d ρ w.0 w.1)
  taking_settled T₂ X₂ C₂ (Err (Full n')) s = (step_then K.step s.0, filled_then X C X₁ C₁ n' K.step.grown.size_x K.step.grown.size_c s.1)
