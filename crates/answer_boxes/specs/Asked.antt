-- What is asked of the words of a configuration: how many answers it has, where they stand, and its state. Each is said of every
-- state that the words mean, whatever its program. Assumes nothing.
use Rattle.std.specs.Prelude.{◌≡◌, ◌⊎◌, Bool, List, ℕ, length}
use Rattle.std.proofs.Math.Option.{some, none}
use Rattle.constraint.specs.Constraint.{Store}
use Rattle.akl.specs.Base.{size}
use Rattle.akl.specs.Configuration.{goal, Node, and, nil, Ctx}
use Rattle.akl.specs.Places.{at}
use Rattle.akl.specs.Answers as akl
use Rattle.akl.specs.Answers.{answers, numbered, failed, final, open_state, is_answer, state}
use Rattle.runs.specs.AnswerPlaces.{OrsAround}
use Rattle.mem_words.specs.declared.Word.{Word}
use Rattle.store_form.specs.State.{State}
use Rattle.step_meant.specs.Meant.{Meant, StandsAt}

-- some state is meant
pub record MeantSome (W : List Word) : Type 0 where
  pub some_state : State
  pub some_rules : List Word
  pub meant : Meant W some_rules some_state

-- some state is meant, and a goal of its configuration stands at j with nothing but or-boxes around it
pub record GoalAt (W : List Word) (j : ℕ) : Type 0 where
  pub some_state : State
  pub some_rules : List Word
  pub meant : Meant W some_rules some_state
  pub context : Ctx goal
  pub here : Node goal
  pub ors : OrsAround context
  pub stands : StandsAt some_state W (at context here) j

-- is it an answer?
pub record AnswerAt (W : List Word) (j : ℕ) (b : Bool) : Type 0 where
  pub right : (s : State) (D : List Word) (χ : Ctx goal) (n : Node goal) → Meant W D s → OrsAround χ → StandsAt s W (at χ n) j → b ≡ is_answer n

-- how many answers are there?
pub record CountIs (W : List Word) (c : ℕ) : Type 0 where
  pub right : (s : State) (D : List Word) → Meant W D s → c ≡ size (answers s.config.root)

-- the answer of the number n, counted from 1, stands at r
pub record AnswerStands (s : State) (W : List Word) (n r : ℕ) : Type 0 where
  pub own : List ℕ
  pub store : Store
  pub context : Ctx goal
  pub is : numbered s.config.root n ≡ some (own, store)
  pub ors : OrsAround context
  pub stands : StandsAt s W (at context (and own store nil)) r

-- where does it stand? r is the number of words if there is none.
pub record Found (W : List Word) (n r : ℕ) : Type 0 where
  pub right : (s : State) (D : List Word) → Meant W D s → ((numbered s.config.root n ≡ none) × (r ≡ length W)) ⊎ AnswerStands s W n r

-- which state is it?
abbrev pub state_number : akl.State → ℕ
state_number failed = 0
state_number final = 1
state_number open_state = 2

pub record StateIs (W : List Word) (r : ℕ) : Type 0 where
  pub right : (s : State) (D : List Word) → Meant W D s → r ≡ state_number (state s.config.root)
