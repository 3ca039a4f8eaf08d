-- Where in a goal there is no unrest. Assumes nothing.
use Rattle.std.specs.Prelude.{◌≡◌, Bool, true, false, List, ℕ, ◌<◌, ◌≤◌}
use Rattle.mem_words.specs.declared.Word.{Word}
use Rattle.rule_effects.specs.Effects.{behind}
use Rattle.rule_kinds.specs.Kinds.{takes_in}
use Rattle.step_meant.specs.Asked.{Unrest}
use Rattle.step_unrest.specs.Disturbing.{ByShape}

-- there is no unrest before j in the goal at g
pub record Calm (W D : List Word) (g j : ℕ) : Type 0 where
  pub still : (i : ℕ) → g ≤ i → i < j → Unrest W D g i false

-- is there unrest at the goal's own place? Of an and-box nothing is said.
pub record OwnPlace (W D : List Word) (g : ℕ) (b : Bool) : Type 0 where
  pub stirs : b ≡ true → Unrest W D g g true
  pub rests : b ≡ false → (takes_in W g ≡ 7 → ⊥) → Unrest W D g g false

-- behind its first word and before j no rule applies by the shape alone
pub record RestTo (W : List Word) (g j : ℕ) : Type 0 where
  pub still : (i : ℕ) → g < i → i < j → ByShape W i false

-- does none at the places inside the goal?
pub record PlacesRest (W : List Word) (g : ℕ) (b : Bool) : Type 0 where
  pub rests : b ≡ true → RestTo W g (behind W g)
  pub stirs : b ≡ false → (j : ℕ) × (g < j) × (j < behind W g) × ByShape W j true
