-- A table of the numbers of unknowns: 0 for a class that was not met, else one more than its number by first appearance.
-- Assumes nothing.
use Rattle.std.specs.Prelude.{◌≡◌, List, ℕ, suc, ◌<◌, get_or, T}
use Rattle.constraint.specs.Constraint.{In}
use Rattle.constraint.specs.Solve.{elem, distinct}
use Rattle.akl.specs.Base.{size, if}
use Rattle.akl.specs.Answers.{position}

unfoldable pub entry : ℕ → List ℕ → ℕ
entry r s = if (elem r s) (suc (position r s)) 0

-- the table N holds the numbers of the c classes of s, all of them below m
pub record Numbered (N s : List ℕ) (c m : ℕ) : Type 0 where
  pub is : (r : ℕ) → get_or N r 0 ≡ entry r s
  pub count : c ≡ size s
  pub apart : T (distinct s)
  pub low : (r : ℕ) → In r s → r < m
