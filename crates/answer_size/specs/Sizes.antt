-- The length of a text by what is known of its parts. Assumes nothing.
-- With W, P and T for the solver's words, positions and cells, M for the numbers of unknowns, G for the lengths that are known.
use Rattle.std.specs.Prelude.{◌≡◌, List, ℕ, ◌+◌, ◌<◌}
use Rattle.constraint.specs.Constraint.{In}
use Rattle.akl.specs.Answers.{built, terms}
use Rattle.mem_words.specs.declared.Word.{Word}
use Rattle.read_nodes.specs.Spell.{named}
use Rattle.solve_fields.specs.Read.{label_at, args_at}
use Rattle.answer_text.specs.Lengths.{term_length, rest_length, cap}
use Rattle.answer_turn.specs.Turning.{term_in, Shown}
use Rattle.answer_order.specs.Memo.{Done, Met}

-- x is done, by some names and words
pub record CanMeasure (P T M G : List ℕ) (x m : ℕ) : Type 0 where
  pub low : x < 65535
  pub names : List ℕ
  pub words : List Word
  pub shown : Shown names words P T
  pub seen : List ℕ
  pub count : ℕ
  pub met : Met (term_in names words P T) T M G count m seen
  pub done : Done (term_in names words P T) T G seen x

-- and r is the length of its text, by whatever names, words and met classes it is done
pub record Sized (P T M G : List ℕ) (x m r : ℕ) : Type 0 where
  pub is : (N : List ℕ) (W : List Word) → Shown N W P T → (s : List ℕ) (c : ℕ) → Met (term_in N W P T) T M G c m s → Done (term_in N W P T) T G s x → r ≡ cap m (term_length (term_in N W P T x) s)

-- the variables l are done
pub record CanAdd (W : List Word) (P T M G l : List ℕ) (m : ℕ) : Type 0 where
  pub names : List ℕ
  pub shown : Shown names W P T
  pub seen : List ℕ
  pub count : ℕ
  pub met : Met (term_in names W P T) T M G count m seen
  pub done : (y : ℕ) → In y l → Done (term_in names W P T) T G seen y

-- and r is a and what they make of an application's text
pub record Added (W : List Word) (P T M G l : List ℕ) (m a r : ℕ) : Type 0 where
  pub is : (N : List ℕ) → Shown N W P T → (s : List ℕ) (c : ℕ) → Met (term_in N W P T) T M G c m s → ((y : ℕ) → In y l → Done (term_in N W P T) T G s y) → r ≡ cap m (a + rest_length (terms (term_in N W P T) l) s)

-- r is the length of the text of the application at p
pub record AddedAll (N : List ℕ) (W : List Word) (P T M G : List ℕ) (p m r : ℕ) : Type 0 where
  pub is : (s : List ℕ) (c : ℕ) → Met (term_in N W P T) T M G c m s → ((y : ℕ) → In y (args_at W p) → Done (term_in N W P T) T G s y) → r ≡ cap m (term_length (built (named N (label_at W p)) (terms (term_in N W P T) (args_at W p))) s)
