-- The length of a binding. Assumes nothing.
use Rattle.std.specs.Prelude.{◌≡◌, List, ◌++◌, ℕ, ◌+◌, length}
use Rattle.akl.specs.Base.{bytes}
use Rattle.akl.specs.Answers.{unknowns, term_text}
use Rattle.mem_words.specs.declared.Word.{Word}
use Rattle.read_nodes.specs.Spell.{named}
use Rattle.answer_text.specs.Lengths.{cap}
use Rattle.answer_turn.specs.Turning.{term_in}
use Rattle.answer_order.specs.Memo.{Met}

-- a binding was added to `at`, with the numbers that its unknowns have by first appearance behind those of s; M' has them all, and G' the
-- lengths that are known since
pub record BoundLong (N : List ℕ) (W : List Word) (P T M G : List ℕ) (v x c m at : ℕ) (M' G' : List ℕ) (c' r : ℕ) : Type 0 where
  pub is : (s : List ℕ) → Met (term_in N W P T) T M G c m s → r ≡ cap m (at + length (named N v ++ bytes " = " ++ term_text (term_in N W P T x) (unknowns (term_in N W P T x) s)))
  pub met : (s : List ℕ) → Met (term_in N W P T) T M G c m s → Met (term_in N W P T) T M' G' c' m (unknowns (term_in N W P T x) s)
