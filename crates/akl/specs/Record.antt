-- The printed record: what `runcheck` prints for three texts.
use Rattle.std.specs.Prelude.{List, ◌++◌, ℕ}
use Rattle.akl.specs.Base.{Name, bytes, flat, decimal, Result, refused, ok}
use Rattle.akl.specs.Limits.{most_parts, answer_bytes}
use Rattle.akl.specs.Reader.{Query, read_program, read_query}
use Rattle.akl.specs.StepsText.{read_steps}
use Rattle.akl.specs.Configuration.{Config, start_config}
use Rattle.akl.specs.Step.{within_limits, Run, steps}
use Rattle.akl.specs.Answers.{Answer, answers, answer_text, fitted, state, state_text}

-- "new or starting configuration over 2,048 parts"
unfoldable pub start : ℕ → Query → Result Config
start limit q = within_limits limit (start_config q)

-- What three texts come to: a refusal of a text or of the start, or the run from the start. "1 to 7 of the program before
-- those of the query, then 1 and 18 of the whole steps text before any step is tried, then the others."
pub record Checked : Type 0 where
  pub variables : List Name
  pub run : Run

unfoldable pub checked_run : ℕ → List ℕ → List ℕ → List ℕ → Result Checked
checked_run limit rules query text =
    elim (read_program rules) [
      | refused n ↦ refused n
      | ok P ↦
          elim (read_query P query) [
            | refused n ↦ refused n
            | ok q ↦
                elim (read_steps text) [
                  | refused n ↦ refused n
                  | ok ss ↦
                      elim (start limit q) [ refused n ↦ refused n | ok c ↦ ok (record { variables = q.variables; run = steps limit P c 0 ss }) ]
                ]
          ]
    ]

-- "(steps accepted; refusal of the next step or 0; answers; state)"
abbrev line : List ℕ → List ℕ
line text = text ++ bytes "\n"

unfoldable pub two_lines : ℕ → ℕ → List ℕ
two_lines accepted refusal = line (bytes "accepted " ++ decimal accepted) ++ line (bytes "refusal " ++ decimal refusal)

-- "It lends 4,096 bytes per answer and prints `answer long` on 17."
unfoldable pub answer_line : List Name → Answer → List ℕ
answer_line xs a = line (bytes "answer " ++ elim (fitted answer_bytes (answer_text xs a)) [ refused n ↦ bytes "long" | ok t ↦ t ])

-- "If a text or the start is refused, only the first two lines stand, with 0 accepted."
unfoldable pub printed : Result Checked → List ℕ
printed (refused n) = two_lines 0 n
printed (ok r) =
    let g = r.run.config.root in
    two_lines r.run.accepted r.run.refusal ++ flat (answer_line r.variables) (answers g) ++ line (bytes "state " ++ state_text (state g))

unfoldable pub runcheck : List ℕ → List ℕ → List ℕ → List ℕ
runcheck rules query text = printed (checked_run most_parts rules query text)
