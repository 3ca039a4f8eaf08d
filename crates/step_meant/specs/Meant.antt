-- The words of a store's configuration and program, and the state that they mean; where a place of its configuration stands.
-- Assumes nothing.
use Rattle.std.specs.Prelude.{◌≡◌, List, [], ℕ}
use Rattle.akl.specs.Limits.{most_parts}
use Rattle.akl.specs.Configuration.{Kind, Node, Ctx}
use Rattle.akl.specs.Places.{Place, at}
use Rattle.mem_words.specs.declared.Word.{Word}
use Rattle.store_form.specs.State.{State, table, number_in}
use Rattle.store_form.specs.Form.{rules_words, config_words}
use Rattle.store_steps.specs.After as steps
use Rattle.rule_effects.specs.Standing.{Stands}

-- W are the words of the state's configuration, D those of its program
pub record Meant (W D : List Word) (s : State) : Type 0 where
  pub stands : steps.Stands most_parts s
  pub config : W ≡ config_words s
  pub rules : D ≡ rules_words s

-- the place stands at i
abbrev pub StandsAt : State → List Word → Place → ℕ → Type 0
StandsAt s W (at χ n) i = Stands (number_in (table s)) χ n [] W i
