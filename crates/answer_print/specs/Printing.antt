-- The text of a term put into a slice, with the numbers of its unknowns. Assumes nothing.
use Rattle.std.specs.Prelude.{Bool, List, ℕ, ◌+◌, ◌≤◌, ◌<◌, length}
use Rattle.akl.specs.Answers.{unknowns, term_text}
use Rattle.mem_words.specs.declared.Word.{Word}
use Rattle.answer_walk.specs.Numbered.{Numbered}
use Rattle.answer_emit.specs.Put.{Put}
use Rattle.answer_turn.specs.Turning.{term_in}

-- the term of x may be put from `at` on: some classes were met, and M has their numbers
pub record CanPrint (M : List ℕ) (x c : ℕ) (O : List ℕ) (at : ℕ) : Type 0 where
  pub low : x < 65535
  pub seen : List ℕ
  pub numbers : Numbered M seen c 65535
  pub room : at ≤ length O + 1

-- its text was put, with the numbers that its unknowns have by first appearance behind those of s; where it fits, M' has them all
pub record Printed (N : List ℕ) (W : List Word) (P T M : List ℕ) (x c : ℕ) (O : List ℕ) (at : ℕ) (w : Bool) (M' O' : List ℕ) (c' at' : ℕ) : Type 0 where
  pub put : (s : List ℕ) → Numbered M s c 65535 → Put (term_text (term_in N W P T x) (unknowns (term_in N W P T x) s)) w O at O' at'
  pub numbers : at' ≤ length O → (s : List ℕ) → Numbered M s c 65535 → Numbered M' (unknowns (term_in N W P T x) s) c' 65535
