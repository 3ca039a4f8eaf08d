-- The term of a variable, read off classes and bindings, and so off the solver's tables. Assumes nothing.
use Rattle.std.specs.Prelude.{List, ℕ, zero, suc, get_or}
use Rattle.constraint.specs.Tree.{Label}
use Rattle.constraint.specs.Solve.{Bnd}
use Rattle.akl.specs.Answers.{Term, unbound, term_of}
use Rattle.mem_words.specs.declared.Word.{Word}
use Rattle.solve_cells.specs.Cells.{rep}
use Rattle.solve_classes.specs.Means.{bound}
use Rattle.solve_fields.specs.Read.{tab_of}

-- down to depth n, with class for each variable's class and bnd for what a class is bound to
unfoldable pub term_by : (ℕ → ℕ) → (ℕ → Bnd) → ℕ → ℕ → Term
term_by class bnd zero x = unbound (class x)
term_by class bnd (suc n) x = term_of (term_by class bnd n) (class x) (bnd (class x))

-- the same by the words W, the positions P of the applications and the cells T
unfoldable pub tab_term : (ℕ → Label) → List Word → List ℕ → List ℕ → ℕ → ℕ → Term
tab_term lab W P T n x = term_by (rep T) (λ r. bound (tab_of lab W P) (get_or T r 0)) n x

-- the whole term: with a applications no term is deeper
unfoldable pub whole_term : (ℕ → Label) → List Word → List ℕ → List ℕ → ℕ → ℕ → Term
whole_term lab W P T a x = tab_term lab W P T (suc a) x
