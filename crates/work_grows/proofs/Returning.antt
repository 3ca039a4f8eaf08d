-- Back at an earlier mark, whose words are fewer: what was true there is true of the tables again. Assumes nothing.
use mathlib.Core.Path.{◌≡◌, refl, ap, sym, ◌∙◌}
use mathlib.Core.List.{List}
use Prim.Native.Nat.{ℕ, ◌-◌, ◌≤◌, ◌<◌}
use native.Mathlib.Omega.{arith}
use lib.ListN.{length}
use Rattle.constraint.specs.Tree.{Label}
use Rattle.constraint.specs.Constraint.{Store}
use Rattle.mem_words.specs.declared.Word.{Word}
use Rattle.solve_cells.specs.Trail.{rewind, rewind_none}
use Rattle.solve_classes.specs.Means.{OldVars, OldIn}
use Rattle.solve_tells.specs.Reach.{vars_of}
use Rattle.solve_tells.specs.Tells.{State, Means, Left}
use Rattle.solve_tells.proofs.Telling.{back_tables}

vars_none : (X : List ℕ) (n z : ℕ) → OldVars X n n z
unfolding OldVars
vars_none X n z t a b = absurd (omega arith)

in_none : (X : List ℕ) (n : ℕ) (vs : List ℕ) → OldIn X n n vs
unfolding OldIn
in_none X n vs t a b = absurd (omega arith)

module _ (W₀ W : List Word) (P₀ T₀ X₀ C₀ : List ℕ) (n₀ a₀ : ℕ) (P T X C : List ℕ) (n a : ℕ) (l : Left W P₀ T₀ X₀ C₀ n₀ a₀ P T X C n a) (s : State W₀ P₀ T₀ X₀ C₀ n₀ a₀) where
  none : rewind (n₀ - n₀) n₀ T₀ X C ≡ T₀
  none = let z : n₀ - n₀ ≡ 0 = omega arith in ap (λ (m : ℕ). rewind m n₀ T₀ X C) z ∙ rewind_none n₀ T₀ X C

  pub left_mark : Left W₀ P₀ T₀ X₀ C₀ n₀ a₀ P T₀ X C n₀ a₀
  left_mark = record {
    step = record {
      grown = record { le = omega arith; size_t = refl; size_x = l.step.grown.size_x; size_c = l.step.grown.size_c; back = none; old_x = l.step.grown.old_x; old_c = l.step.grown.old_c; tags = λ x. record { unbound = λ e. e }; opens = λ i h g. absurd (omega arith) };
      up = s.sound.up;
      vars = vars_none X n₀ (length T₀);
      plain = λ x e. e;
      fit_x = s.sound.fit_x;
      fit_c = s.sound.fit_c;
      cost = omega arith;
      within = s.sound.within;
      used = in_none X n₀ (vars_of W₀);
    };
    more = omega arith;
    size_p = l.size_p;
    old_p = l.old_p;
  }

  pub state_mark : State W₀ P T₀ X C n₀ a₀
  state_mark = (back_tables W₀ P T₀ X C n₀ n₀ T₀ (sym none)).state P₀ T₀ X₀ C₀ a₀ a₀ left_mark s

  pub means_mark : (lab : ℕ → Label) (σ : Store) → Means lab W₀ P₀ T₀ σ → Means lab W₀ P T₀ σ
  means_mark lab σ m = (back_tables W₀ P T₀ X C n₀ n₀ T₀ (sym none)).means P₀ T₀ X₀ C₀ a₀ a₀ left_mark s lab σ m
