-- Calm and-boxes are those where there is no unrest: so stability asks for nothing else at them.
use mathlib.Core.Path.{◌≡◌, sym, ◌∙◌}
use mathlib.Core.Bool.{Bool, true, false}
use mathlib.Core.Logic.{◌⊎◌, inl, inr}
use mathlib.Core.List.{List}
use Prim.Native.Nat.{ℕ, ◌<◌, ◌≤◌}
use Rattle.mem_words.specs.declared.Word.{Word}
use Rattle.rule_effects.specs.Effects.{behind}
use Rattle.rule_ranges.specs.Asked.{SatIn, QuietIn}
use Rattle.rule_kinds.specs.Kinds.{takes_in}
use Rattle.step_meant.specs.Asked.{Unrest}
use Rattle.step_unrest.proofs.Boxed.{and_takes, takes_and, box_rests, box_unsolved, box_loud}
use Rattle.step_walk.specs.Calm.{BoxesCalm}

module _ {W : List Word} {g : ℕ} {r : Bool} (h : BoxesCalm W g r) (D : List Word) where
  pub boxes_rest : r ≡ true → (j : ℕ) → g ≤ j → j < behind W g → takes_in W j ≡ 7 → Unrest W D g j false
  boxes_rest z j a b e = let c = h.calm z j a b (takes_and W j e) in box_rests W D g j a b e c.0 c.1

  pub boxes_stir : r ≡ false → (j : ℕ) × (g ≤ j) × (j < behind W g) × Unrest W D g j true
  boxes_stir z =
      let c = h.loud z in
      (c.0, c.1, c.2, go c.0 c.1 c.2 (and_takes W c.0 c.3) c.4)
    where
      go : (j : ℕ) → g ≤ j → j < behind W g → takes_in W j ≡ 7 → SatIn W j false ⊎ QuietIn W g j false → Unrest W D g j true
      go j a b e (inl s) = box_unsolved W D g j a b e s
      go j a b e (inr q) = box_loud W D g j a b e q
