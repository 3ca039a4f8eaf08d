-- Whether all and-boxes at or inside a goal are quiet for its environment, as it is asked of the words. Assumes nothing.
use Rattle.std.specs.Prelude.{◌≡◌, Bool, true, false, List, ℕ, ◌≤◌, ◌<◌}
use Rattle.mem_words.specs.declared.Word.{Word}
use Rattle.mem_sorts.specs.declared.Kind.TheVariants.{And}
use Rattle.rule_effects.specs.Effects.{behind}
use Rattle.rule_effects.specs.Conditions.{kind_at}
use Rattle.rule_ranges.specs.Asked.{QuietIn}

-- an and-box begins at j, at or inside the goal at g
pub record AndIn (W : List Word) (g j : ℕ) : Type 0 where
  pub from : g ≤ j
  pub to : j < behind W g
  pub kind : kind_at W j And ≡ true

-- the stores from the goal down to each of them are quiet; or there is one for which they are not
abbrev pub QuietAll : List Word → ℕ → Bool → Type 0
QuietAll W g true = (j : ℕ) → AndIn W g j → QuietIn W g j true
QuietAll W g false = (j : ℕ) × AndIn W g j × QuietIn W g j false
