-- The store of an answer told to the solver: what the tables then have, for every state that the words mean. Assumes nothing.
use Rattle.std.specs.Prelude.{◌≡◌, List, ℕ}
use Rattle.akl.specs.Base.{Name, size, range}
use Rattle.akl.specs.Answers.{terms, line_text, answer_text}
use Rattle.mem_words.specs.declared.Word.{Word}
use Rattle.work_tables.specs.Tables.{cells_of, pos_of, log_of}
use Rattle.store_form.specs.State.{State, table}
use Rattle.step_meant.specs.Meant.{Meant}
use Rattle.answer_boxes.specs.Asked.{AnswerStands}
use Rattle.answer_turn.specs.Turning.{term_in, Shown}

-- some state is meant, and an answer of its configuration stands at j
pub record AnswerThere (W : List Word) (j : ℕ) : Type 0 where
  pub some_state : State
  pub some_rules : List Word
  pub number : ℕ
  pub meant : Meant W some_rules some_state
  pub stands : AnswerStands some_state W number j

-- u words of the log are in use; the terms that the tables X have by the state's names are those of the answer's text
pub record AnswerTold (W : List Word) (j u : ℕ) (X : List ℕ) : Type 0 where
  pub shown : (s : State) (D : List Word) (n : ℕ) → Meant W D s → AnswerStands s W n j → Shown (table s) (log_of u X) (pos_of X) (cells_of X)
  pub text : (s : State) (D : List Word) (n : ℕ) → Meant W D s → (p : AnswerStands s W n j) (xs : List Name)
      → line_text xs (terms (term_in (table s) (log_of u X) (pos_of X) (cells_of X)) (range 0 (size xs))) ≡ answer_text xs (p.own, p.store)
