-- Calls on a store's bytes, one after the other, and the calls on configurations that they stand for. Assumes nothing.
use Rattle.std.specs.Prelude.{List, [], ◌∷◌, Bool, ℕ, ltb}
use Rattle.akl.specs.Base.{if, Result, refused, ok}
use Rattle.akl.specs.StepsText.{Step, read_steps}
use Rattle.runs.specs.Calls.{slice_short, Call, one_step, steps_text, ask_answer, ask_state, unfit_call}
use Rattle.runs.specs.Outcomes.{Outcome}
use Rattle.store_calls.specs.Outcomes.{Called, step_outcome, run_outcome, answer_outcome, state_outcome}

-- what is asked for
pub data Asked : Type 0 where
  for_step : Step → Asked
  for_run : List ℕ → Asked
  for_answer : ℕ → ℕ → Asked
  for_state : Asked

-- a call, with the length of the working slice that is lent to it
pub record ByteCall : Type 0 where
  pub asked : Asked
  pub working : ℕ

abbrev pub asked_outcome : ℕ → ℕ → List ℕ → ℕ → Asked → Called
asked_outcome limit work b w (for_step k) = step_outcome limit work b w k
asked_outcome limit work b w (for_run t) = run_outcome limit work b w t
asked_outcome limit work b w (for_answer n m) = answer_outcome limit work b w n m
asked_outcome limit work b w for_state = state_outcome limit work b w

unfoldable pub call_outcome : ℕ → ℕ → List ℕ → ByteCall → Called
call_outcome limit work b k = asked_outcome limit work b k.working k.asked

-- Each call is made on the bytes that the one before it left.
unfoldable pub bytes_after : ℕ → ℕ → List ℕ → List ByteCall → List ℕ
bytes_after limit work b [] = b
bytes_after limit work b (k ∷ ks) = bytes_after limit work (call_outcome limit work b k).store ks

unfoldable pub outcomes_on : ℕ → ℕ → List ℕ → List ByteCall → List Outcome
outcomes_on limit work b [] = []
outcomes_on limit work b (k ∷ ks) = (call_outcome limit work b k).told ∷ outcomes_on limit work (call_outcome limit work b k).store ks

-- The call on a configuration that it stands for, the store being long enough: with too short a working slice, one that is refused
-- for its slices; but a steps text that is refused for itself, with 1 or 18, is refused for that.
abbrev pub unless_short : Bool → Call → Call
unless_short short k = if short (unfit_call slice_short) k

abbrev pub run_meant : List ℕ → Bool → Result (List Step) → Call
run_meant t short (refused n) = steps_text t
run_meant t short (ok ks) = unless_short short (steps_text t)

abbrev pub asked_meant : Bool → Asked → Call
asked_meant short (for_step k) = unless_short short (one_step k)
asked_meant short (for_run t) = run_meant t short (read_steps t)
asked_meant short (for_answer n m) = unless_short short (ask_answer n m)
asked_meant short for_state = unless_short short ask_state

unfoldable pub meant : ℕ → ByteCall → Call
meant work k = asked_meant (ltb k.working work) k.asked
