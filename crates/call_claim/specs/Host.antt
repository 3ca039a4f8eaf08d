-- Calls that a host makes, one after the other, each doing what its contract says. Assumes nothing.
--
-- A start is among them where it is refused: it changes no store. One that is accepted begins another run, to which the claim applies
-- anew.
use Rattle.std.specs.Prelude.{◌≡◌, List, [], ◌∷◌, ℕ}
use Rattle.akl.specs.StepsText.{Step}
use Rattle.start_call.specs.Called.{StartCalled}
use Rattle.call_step.specs.Called.{StepCalled}
use Rattle.call_run.specs.Called.{RunCalled}
use Rattle.call_answer.specs.Called.{AnswerCalled}
use Rattle.call_state.specs.Called.{StateCalled}
use Rattle.call_count.specs.Called.{CountCalled}

-- what a host asks for
pub data Request : Type 0 where
  -- akl_step: rule, place, argument
  for_step : Step → Request
  -- akl_run: the steps text
  for_run : List ℕ → Request
  -- akl_answer: the number, the output slice before the call and after it
  for_answer : ℕ → List ℕ → List ℕ → Request
  -- akl_state
  for_state : Request
  -- akl_count
  for_count : Request
  -- akl_start, refused: the texts of program and query
  for_start : List ℕ → List ℕ → Request

-- a call: the working slice before it and after it, and the number that it returned
pub record HostCall : Type 0 where
  pub request : Request
  pub work : List ℕ
  pub work' : List ℕ
  pub returned : ℕ

-- By its contract: b is the store's slice before the call and b' after it. A call that only reads borrows the store and leaves it as
-- it is.
abbrev pub Does : Request → List ℕ → List ℕ → ℕ → List ℕ → List ℕ → Type 0
Does (for_step k) u u' x b b' = StepCalled b u k b' u' x
Does (for_run t) u u' x b b' = RunCalled t b u b' u' x
Does (for_answer n o o') u u' x b b' = AnswerCalled b u n o u' o' x × (b' ≡ b)
Does for_state u u' x b b' = StateCalled b u u' x × (b' ≡ b)
Does for_count u u' x b b' = CountCalled b u u' x × (b' ≡ b)
Does (for_start t q) u u' x b b' = StartCalled t q b u b' u' x × (x ≡ 0 → ⊥)

abbrev pub Did : HostCall → List ℕ → List ℕ → Type 0
Did k b b' = Does k.request k.work k.work' k.returned b b'

-- From the bytes b to the bytes c: each call is made on the bytes that the one before it left.
abbrev pub History : List ℕ → List HostCall → List ℕ → Type 0
History b [] c = b ≡ c
History b (k ∷ ks) c = (d : List ℕ) × Did k b d × History d ks c
