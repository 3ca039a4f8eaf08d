-- The line of an answer put into a slice, and one binding of it. Assumes nothing.
use Rattle.std.specs.Prelude.{Bool, List, ◌++◌, map, ℕ, ◌+◌, ◌≤◌, ◌<◌, length, get_or}
use Rattle.akl.specs.Base.{bytes, range}
use Rattle.akl.specs.Answers.{terms, unknowns, term_text, line_text}
use Rattle.mem_words.specs.declared.Word.{Word}
use Rattle.read_nodes.specs.Spell.{named}
use Rattle.answer_walk.specs.Numbered.{Numbered}
use Rattle.answer_emit.specs.Put.{Put}
use Rattle.answer_turn.specs.Turning.{term_in}

-- the query variables are few, and their names are nodes of the table
pub record CanLine (N Q : List ℕ) : Type 0 where
  pub few : length Q ≤ 16
  pub low : (i : ℕ) → i < length Q → get_or Q i 0 < length N

-- the text of an answer: the variable of the i-th query variable is i
abbrev pub whole : List ℕ → List ℕ → List Word → List ℕ → List ℕ → List ℕ
whole N Q W P T = line_text (map (named N) Q) (terms (term_in N W P T) (range 0 (length Q)))

-- a binding was put, with the numbers that its unknowns have by first appearance behind those of s; where it fits, M' has them all
pub record Bound (N : List ℕ) (W : List Word) (P T M : List ℕ) (v x c : ℕ) (O : List ℕ) (at : ℕ) (w : Bool) (M' O' : List ℕ) (c' at' : ℕ) : Type 0 where
  pub put : (s : List ℕ) → Numbered M s c 65535 → Put (named N v ++ bytes " = " ++ term_text (term_in N W P T x) (unknowns (term_in N W P T x) s)) w O at O' at'
  pub numbers : at' ≤ length O → (s : List ℕ) → Numbered M s c 65535 → Numbered M' (unknowns (term_in N W P T x) s) c' 65535
