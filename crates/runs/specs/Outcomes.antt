-- What a call hands back, as a function of the program, the query's names, the configuration and the call.
use Rattle.std.specs.Prelude.{List, [], ◌∷◌, ℕ}
use Rattle.akl.specs.Base.{Name, Result, refused, ok}
use Rattle.akl.specs.Syntax.{Program}
use Rattle.akl.specs.StepsText.{Step, read_steps}
use Rattle.akl.specs.Configuration.{Config}
use Rattle.akl.specs.Step.{step, Run, steps}
use Rattle.akl.specs.Answers.{State, state, answer}
use Rattle.runs.specs.Calls.{Unfit, slice_short, store_bad, Call, one_step, steps_text, ask_answer, ask_state, unfit_call, after_call}

-- A refusal, by its number in document 01's table; how many steps are accepted, and the refusal of the next one or 0; an
-- answer's text; the state.
pub data Outcome : Type 0 where
  refusal : ℕ → Outcome
  accepted : ℕ → ℕ → Outcome
  shown : List ℕ → Outcome
  stands : State → Outcome

abbrev pub unfit_number : Unfit → ℕ
unfit_number slice_short = 8
unfit_number store_bad = 9

abbrev pub step_outcome : Result Config → Outcome
step_outcome (refused n) = refusal n
step_outcome (ok d) = accepted 1 0

abbrev pub text_outcome : ℕ → Program → Config → Result (List Step) → Outcome
text_outcome limit P c (refused n) = refusal n
text_outcome limit P c (ok ss) = accepted (steps limit P c 0 ss).accepted (steps limit P c 0 ss).refusal

abbrev pub answer_outcome : Result (List ℕ) → Outcome
answer_outcome (refused n) = refusal n
answer_outcome (ok t) = shown t

abbrev pub outcome : ℕ → Program → List Name → Config → Call → Outcome
outcome limit P xs c (one_step s) = step_outcome (step limit P c s)
outcome limit P xs c (steps_text t) = text_outcome limit P c (read_steps t)
outcome limit P xs c (ask_answer n m) = answer_outcome (answer xs c.root n m)
outcome limit P xs c ask_state = stands (state c.root)
outcome limit P xs c (unfit_call u) = refusal (unfit_number u)

-- Of each call of a list, in their order.
unfoldable pub outcomes : ℕ → Program → List Name → Config → List Call → List Outcome
outcomes limit P xs c [] = []
outcomes limit P xs c (k ∷ ks) = outcome limit P xs c k ∷ outcomes limit P xs (after_call limit P c k) ks
