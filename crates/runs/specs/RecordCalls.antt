-- The printed record as what calls hand back: the steps text, the answers from 1 on, each in a slice of 4,096 bytes, and the state.
use Rattle.std.specs.Prelude.{List, [], ◌∷◌, ◌++◌, ℕ, zero, suc}
use Rattle.akl.specs.Base.{bytes}
use Rattle.akl.specs.Limits.{answer_bytes}
use Rattle.akl.specs.Record.{two_lines}
use Rattle.akl.specs.Answers.{state_text}
use Rattle.runs.specs.Calls.{Call, steps_text, ask_answer, ask_state}
use Rattle.runs.specs.Outcomes.{Outcome, refusal, accepted, shown, stands}

-- questions for n answers, from the number i on
unfoldable pub asks : ℕ → ℕ → List Call
asks i zero = []
asks i (suc n) = ask_answer i answer_bytes ∷ asks (suc i) n

abbrev pub record_calls : List ℕ → ℕ → List Call
record_calls t n = steps_text t ∷ (asks 1 n ++ (ask_state ∷ []))

-- What is printed of an outcome. (The only refusal among those of the record is 17, of an answer.)
abbrev pub outcome_lines : Outcome → List ℕ
outcome_lines (refusal n) = (bytes "answer " ++ bytes "long") ++ bytes "\n"
outcome_lines (accepted n r) = two_lines n r
outcome_lines (shown t) = (bytes "answer " ++ t) ++ bytes "\n"
outcome_lines (stands s) = (bytes "state " ++ state_text s) ++ bytes "\n"
