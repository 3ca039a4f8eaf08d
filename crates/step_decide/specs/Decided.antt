-- What is decided of a step on the words W of a configuration and D of a program: the row of its rule, whether its argument is as it
-- must be, its condition, and its refusal or where its place stands. Assumes nothing.
use Rattle.std.specs.Prelude.{◌≡◌, Bool, true, ◌&&◌, List, ℕ, ◌<◌, eqb, ltb, length, Result, Ok, Err}
use Rattle.std.proofs.Math.Option.{Option, some, none}
use Rattle.akl.specs.Base.{is_some, if}
use Rattle.akl.specs.Places.{Place}
use Rattle.akl.specs.Table.{Row, takes_number}
use Rattle.akl.specs.Rules.{effect}
use Rattle.akl.specs.StepsText.{Step}
use Rattle.akl.specs.Step.{splitting, argument_stable}
use Rattle.mem_words.specs.declared.Word.{Word}
use Rattle.refusals.specs.declared.Refusal.{Refusal}
use Rattle.refusals.specs.Refusals.{number_of}
use Rattle.store_form.specs.State.{State, program_of, config_of}
use Rattle.store_words.specs.Contexts.{place_at}
use Rattle.step_meant.specs.Meant.{Meant}
use Rattle.step_meant.specs.Asked.{Takes}
use Rattle.step_meant.specs.Deciding.{Refuses, Goes}

-- the number of the kind of place that a row's rule takes; 10 if there is no row
abbrev pub row_takes : Option Row → ℕ
row_takes none = 10
row_takes (some w) = takes_number w.takes

-- the argument is a place in rule 12, else 0
unfoldable pub argument_there : List Word → ℕ → ℕ → Bool
argument_there W r a = if (eqb r splitting) (ltb (place_at W a) (length W)) (eqb a 0)

-- some state is meant
pub record CanDecide (W D : List Word) : Type 0 where
  pub state : State
  pub meant : Meant W D state

-- and a place of its configuration stands at i, of the kind that the rule takes; the argument is as it must be
pub record CanTake (W D : List Word) (r a i : ℕ) : Type 0 where
  pub state : State
  pub place : Place
  pub meant : Meant W D state
  pub takes : Takes state W r place i
  pub argument : argument_there W r a ≡ true

-- is the argument of rule 12 the place of a stable goal that is or holds the box?
pub record AsksStable (W D : List Word) (r a i : ℕ) (b : Bool) : Type 0 where
  pub right : (s : State) (pl : Place) → Meant W D s → Takes s W r pl i → b ≡ argument_stable (program_of s) (config_of s) r pl a

-- does the rule apply at i with the argument?
pub record HasCondition (W D : List Word) (r a i : ℕ) (b : Bool) : Type 0 where
  pub right : (s : State) (pl : Place) → Meant W D s → Takes s W r pl i → b ≡ is_some (effect (program_of s) (config_of s).next r pl) && argument_stable (program_of s) (config_of s) r pl a

-- the step is refused, or its place stands at i and only the limits are left to be tested
abbrev pub Decided : List Word → List Word → Step → Result ℕ Refusal → Type 0
Decided W D k (Err x) = (0 < number_of x) × Refuses W D k (number_of x)
Decided W D k (Ok i) = Goes W D k i × (i ≡ place_at W k.place) × (i < length W)
