-- What is asked of places: whether a rule applies there, whether a goal is stable. Each is said of every state that the words mean.
-- Assumes nothing.
use Rattle.std.specs.Prelude.{◌≡◌, Bool, true, false, ◌||◌, not, List, [], ℕ, ◌<◌, ◌≤◌, T}
use Rattle.std.proofs.Math.Option.{Option, some, none}
use Rattle.constraint.specs.Solve.{quiet?}
use Rattle.akl.specs.Base.{is_some, any, all, range, size, Result, refused, ok}
use Rattle.akl.specs.Limits.{most_parts}
use Rattle.akl.specs.Configuration.{Kind, Node, Ctx, env, Config}
use Rattle.akl.specs.Places.{Place, at, place}
use Rattle.akl.specs.Table.{Row, table, rule_row}
use Rattle.akl.specs.Rules.{effect}
use Rattle.akl.specs.Stability.{fits_row, disturbs, locals, stable}
use Rattle.akl.specs.StepsText.{Step}
use Rattle.akl.specs.Step.{step, within_limits}
use Rattle.accept.specs.AtPlaces.{stores_at}
use Rattle.mem_words.specs.declared.Word.{Word}
use Rattle.store_form.specs.State.{State, program_of, config_of}
use Rattle.rule_effects.specs.Effects.{behind}
use Rattle.step_meant.specs.Meant.{Meant, StandsAt}

-- a place of the state's configuration stands at i, of the kind that the rule takes
pub record Takes (s : State) (W : List Word) (r : ℕ) (pl : Place) (i : ℕ) : Type 0 where
  pub stands : StandsAt s W pl i
  pub row : Row
  pub is_row : rule_row r ≡ some row
  pub fits : T (fits_row row pl)

-- does the rule apply there?
pub record Applies (W D : List Word) (r i : ℕ) (b : Bool) : Type 0 where
  pub right : (s : State) (pl : Place) → Meant W D s → Takes s W r pl i → b ≡ is_some (effect (program_of s) (config_of s).next r pl)

-- some state and a place of its configuration are meant
pub record CanApply (W D : List Word) (r i : ℕ) : Type 0 where
  pub state : State
  pub place : Place
  pub meant : Meant W D state
  pub takes : Takes state W r place i

-- what keeps the goal n in the context χ from being stable, at a place at or inside it: a determinate rule, or stores that are not quiet
abbrev pub unrest : State → {k : Kind} → Ctx k → Node k → Place → Bool
unrest s χ n pl = any (λ r. disturbs (program_of s) (config_of s) χ n r pl) (range 1 (size table)) || not (all (quiet? (locals n) (env χ)) (stores_at pl))

-- is there unrest at j in the goal at g? There is none where no place begins.
pub record Unrest (W D : List Word) (g j : ℕ) (b : Bool) : Type 0 where
  pub right : (s : State) {k : Kind} (χ : Ctx k) (n : Node k) (pl : Place) → Meant W D s → StandsAt s W (at χ n) g → StandsAt s W pl j → b ≡ unrest s χ n pl
  pub found : b ≡ true → (s : State) → Meant W D s → (pl : Place) × StandsAt s W pl j

-- is the goal at g stable?
pub record IsStable (W D : List Word) (g : ℕ) (b : Bool) : Type 0 where
  pub right : (s : State) (pl : Place) → Meant W D s → StandsAt s W pl g → b ≡ stable (program_of s) (config_of s) pl

-- some state and a goal of its configuration are meant
pub record CanAsk (W D : List Word) (g : ℕ) : Type 0 where
  pub state : State
  pub goal : Place
  pub meant : Meant W D state
  pub stands : StandsAt state W goal g
