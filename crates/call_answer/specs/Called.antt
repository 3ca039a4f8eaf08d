-- What a question for an answer hands back, on any slices. Assumes nothing.
use Rattle.std.specs.Prelude.{◌≡◌, List, ℕ, ◌+◌, length, replicate}
use Rattle.akl.specs.Limits.{most_parts}
use Rattle.akl.specs.Answers.{answer}
use Rattle.runs.specs.Outcomes.{Outcome, refusal, accepted, shown, stands}
use Rattle.mem_words.specs.declared.Word.{Word}
use Rattle.store_form.specs.State.{State, names_of}
use Rattle.store_form.specs.Form.{rules_words}
use Rattle.store_calls.specs.Outcomes.{answer_done, answer_outcome}
use Rattle.store_calls.specs.Handed.{written}
use Rattle.store_lent.specs.Lent.{working_bytes}
use Rattle.step_meant.specs.Meant.{Meant}
use Rattle.step_meant.specs.Deciding.{HoldsState}
use Rattle.answer_boxes.specs.Asked.{AnswerStands}
use Rattle.call_answer.specs.Telling.{AnswerTold}

-- the length of the text and the refusal in one number: refusals are below 256
abbrev pub answer_told : Outcome → ℕ
answer_told (refusal n) = n
answer_told (accepted n r) = 0
answer_told (shown t) = 256 + length t
answer_told (stands s) = 0

-- b is the store's slice, w the length of the working slice, n the answer's number; O is the lent slice before the call and O' after
-- it, x what is handed back
pub record AnswerTo (b : List ℕ) (w n : ℕ) (O O' : List ℕ) (x : ℕ) : Type 0 where
  pub number : x ≡ answer_told (answer_outcome most_parts working_bytes b w n (length O)).told
  pub out : O' ≡ written O (answer_outcome most_parts working_bytes b w n (length O)).told

-- "the working slice is zero after every call"
pub record AnswerCalled (b u : List ℕ) (n : ℕ) (O u' O' : List ℕ) (x : ℕ) : Type 0 where
  pub answer : AnswerTo b (length u) n O O' x
  pub working : u' ≡ replicate (length u) 0

-- what is told of a state
abbrev pub state_answer : List ℕ → State → ℕ → ℕ → Outcome
state_answer b s n m = (answer_done b (answer (names_of s) s.config.root n m)).told

-- the same where the store holds a state
pub record AnswerOf (b : List ℕ) (n : ℕ) (O O' : List ℕ) (x : ℕ) : Type 0 where
  pub number : (h : HoldsState b) → x ≡ answer_told (state_answer b h.state n (length O))
  pub out : (h : HoldsState b) → O' ≡ written O (state_answer b h.state n (length O))

-- the answer is told to the solver, u words of the log of X being used
pub record AnswerReady (b : List ℕ) (n u : ℕ) (X : List ℕ) : Type 0 where
  pub holds : HoldsState b
  pub words : List Word
  pub place : ℕ
  pub meant : (h : HoldsState b) → Meant words (rules_words h.state) h.state
  pub stands : (h : HoldsState b) → AnswerStands h.state words n place
  pub told : AnswerTold words place u X
