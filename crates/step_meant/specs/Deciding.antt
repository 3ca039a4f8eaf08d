-- A step on words and on a store's bytes: what is decided before anything is written, and what is handed back. Assumes nothing.
use Rattle.std.specs.Prelude.{◌≡◌, List, ℕ, zero, suc}
use Rattle.std.proofs.Math.Option.{some}
use Rattle.akl.specs.Base.{Result, refused, ok}
use Rattle.akl.specs.Limits.{most_parts}
use Rattle.akl.specs.Configuration.{Config}
use Rattle.akl.specs.Places.{Place}
use Rattle.akl.specs.Rules.{effect}
use Rattle.akl.specs.StepsText.{Step}
use Rattle.akl.specs.Step.{step, within_limits}
use Rattle.runs.specs.Outcomes.{Outcome, refusal, accepted}
use Rattle.mem_words.specs.declared.Word.{Word}
use Rattle.store_form.specs.State.{State, program_of, config_of}
use Rattle.store_steps.specs.After.{state_after}
use Rattle.store_calls.specs.Outcomes.{held, called, step_done}
use Rattle.step_meant.specs.Meant.{Meant}
use Rattle.step_meant.specs.Asked.{Takes}

abbrev pub step_of : ℕ → ℕ → ℕ → Step
step_of r p a = record { rule = r; place = p; argument = a }

-- 10 to 13: the step is refused
abbrev pub Refuses : List Word → List Word → Step → ℕ → Type 0
Refuses W D k x = (s : State) → Meant W D s → step most_parts (program_of s) (config_of s) k ≡ refused x

-- none of them: its place stands at i, the rule leads to a configuration, and only the limits are left to be tested
pub record Ready (s : State) (W : List Word) (k : Step) (i : ℕ) : Type 0 where
  pub at_place : Place
  pub takes : Takes s W k.rule at_place i
  pub after : Config
  pub leads : effect (program_of s) (config_of s).next k.rule at_place ≡ some after
  pub limits : step most_parts (program_of s) (config_of s) k ≡ within_limits most_parts after

abbrev pub Goes : List Word → List Word → Step → ℕ → Type 0
Goes W D k i = (s : State) → Meant W D s → Ready s W k i

-- 0 for a step that is accepted, else its refusal
abbrev pub outcome_of : ℕ → Outcome
outcome_of zero = accepted 1 0
outcome_of (suc n) = refusal (suc n)

-- a step on a store that holds a state: what is handed back, and the store's bytes afterwards
pub record StepDone (b : List ℕ) (k : Step) (x : ℕ) (b' : List ℕ) : Type 0 where
  pub right : (s : State) → held most_parts b ≡ some s → step_done most_parts b (state_after most_parts s k) ≡ called (outcome_of x) b'

-- the store holds a state
pub record HoldsState (b : List ℕ) : Type 0 where
  pub state : State
  pub holds : held most_parts b ≡ some state
