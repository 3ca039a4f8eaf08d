-- The line of the terms that are written is the answer's text. Assumes nothing.
use mathlib.Core.Path.{◌≡◌}
use mathlib.Core.List.{List}
use Prim.Native.Nat.{ℕ}
use lib.ListN.{length}
use Rattle.akl.specs.Base.{Name, size, range}
use Rattle.akl.specs.Answers.{Answer, terms, line_text, answer_text}
use Rattle.runs.specs.Shown.{Fair}
use Rattle.mem_words.specs.declared.Word.{Word}
use Rattle.read_nodes.specs.Spell.{named}
use Rattle.solve_tells.specs.Tells.{Means}
use Rattle.answer_text.proofs.Tabled.{whole_text}
use Rattle.answer_turn.specs.Turning.{term_in, Shown}

pub answer_line : (N : List ℕ) (W : List Word) (P T : List ℕ) → Shown N W P T → (a : Answer) → Means (named N) W P T a.1 → (xs : List Name) → Fair a → line_text xs (terms (term_in N W P T) (range 0 (size xs))) ≡ answer_text xs a
unfolding term_in
answer_line N W P T sh a m xs f = whole_text (named N) W P T sh.up sh.acyclic a m (length P) sh.apps xs f
