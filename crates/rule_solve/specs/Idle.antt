-- The solver's tables between two questions, and what is asked with the locals marked. Assumes nothing.
use Rattle.std.specs.Prelude.{List, [], ◌++◌, ℕ, ◌+◌, ◌≤◌, ◌<◌, length}
use Rattle.mem_words.specs.declared.Word.{Word}
use Rattle.solve_quiet.specs.Solver.{Marking}
use Rattle.work_tables.specs.Tables.{locals_of}
use Rattle.work_marks.specs.Marks.{Walk}
use Rattle.rule_ranges.specs.Ranges.{ranges_from, locals_at}
use Rattle.rule_ranges.specs.Asked.{Roomy, RoomFor}

-- nothing is told, and no variable is marked as a local
pub record Idle (L : List ℕ) : Type 0 where
  pub walk : Walk L []
  pub unmarked : Marking (locals_of L) []

-- nothing is told, the locals inside the goal at g are marked, and there is room for the stores around the and-box at j
pub record CanQuiet (W : List Word) (L : List ℕ) (g j : ℕ) : Type 0 where
  pub walk : Walk L []
  pub marks : Marking (locals_of L) (locals_at W g)
  pub roomy : Roomy W
  pub order : g ≤ j
  pub low : j < length W
  pub room : RoomFor W (ranges_from W 0 g ++ ranges_from W g (j + 1))
