-- Joining in the working slice: what `solve_classes` says, at the tables of the slice. Assumes nothing.
use Rattle.std.specs.Prelude.{◌≡◌, List, ℕ, ◌<◌, length}
use Rattle.solve_classes.specs.Means.{Joined}
use Rattle.work_tables.specs.Tables.{cells_of, vars_of, olds_of, Moved}

-- two different variables, which can be compared
pub record CanOrder (T : List ℕ) (a b : ℕ) : Type 0 where
  pub ina : a < length T
  pub inb : b < length T
  pub size : length T < 65537
  pub apart : a ≡ b → ⊥

-- they were joined, and nothing but the cells and the trail was changed
pub record JoinedIn (L : List ℕ) (n x y : ℕ) (X : List ℕ) (r : ℕ) : Type 0 where
  pub joined : Joined (cells_of L) (vars_of L) (olds_of L) n x y (cells_of X) (vars_of X) (olds_of X) r
  pub rest : Moved L X
