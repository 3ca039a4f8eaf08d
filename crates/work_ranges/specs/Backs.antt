-- Taking back in the working slice: what `solve_tells` says, at the tables of the slice, whatever words the log has. Assumes nothing.
use Rattle.std.specs.Prelude.{◌≡◌, List, ℕ}
use Rattle.mem_words.specs.declared.Word.{Word}
use Rattle.solve_tells.specs.Tells.{Back}
use Rattle.work_tables.specs.Tables.{cells_of, vars_of, olds_of, Moved}

pub record BackIn (L : List ℕ) (m n : ℕ) (X : List ℕ) : Type 0 where
  pub back : (W : List Word) (P : List ℕ) → Back W P (cells_of L) (vars_of L) (olds_of L) m n (cells_of X)
  pub vars : vars_of X ≡ vars_of L
  pub olds : olds_of X ≡ olds_of L
  pub rest : Moved L X
