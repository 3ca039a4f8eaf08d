-- The outcome of asking for an answer's text, by the tables: the counted length decides it. Assumes nothing.
use mathlib.Core.Path.{◌≡◌, ap, sym, ◌∙◌}
use mathlib.Core.List.{List}
use Prim.Native.Nat.{ℕ, ◌≤◌, ◌<◌}
use Rattle.constraint.specs.Tree.{Label}
use Rattle.akl.specs.Base.{Name, size, range, refused, ok}
use Rattle.akl.specs.Answers.{Answer, Terms, terms, line_text, answer_text, fitted}
use Rattle.runs.specs.Shown.{Fair}
use Rattle.mem_words.specs.declared.Word.{Word}
use Rattle.solve_cells.specs.Cells.{Up}
use Rattle.solve_classes.specs.Means.{Apps}
use Rattle.solve_tells.specs.Tells.{Means}
use Rattle.solve_explores.specs.Search.{Acyclic}
use Rattle.answer_text.specs.Tabled.{whole_term}
use Rattle.answer_text.specs.Lengths.{line_length, cap}
use Rattle.answer_text.proofs.Lengths.{fitted_over, fitted_ok}
use Rattle.answer_text.proofs.Tabled.{whole_text}

module _ (lab : ℕ → Label) (W : List Word) (P T : List ℕ) (U : Up T) (A : Acyclic W P T) (a : Answer) (m : Means lab W P T a.1) (k : ℕ) (apps : Apps T k) (xs : List Name) (f : Fair a) (n : ℕ) where
  -- the terms of the query's variables
  abbrev pub query_terms : Terms
  query_terms = terms (whole_term lab W P T k) (range 0 (size xs))

  pub answer_over : n < cap n (line_length xs query_terms) → fitted n (answer_text xs a) ≡ refused 17
  answer_over h = ap (fitted n) (sym (whole_text lab W P T U A a m k apps xs f)) ∙ fitted_over n xs query_terms h

  pub answer_ok : cap n (line_length xs query_terms) ≤ n → fitted n (answer_text xs a) ≡ ok (line_text xs query_terms)
  answer_ok h = ap (fitted n) (sym (whole_text lab W P T U A a m k apps xs f)) ∙ fitted_ok n xs query_terms h
