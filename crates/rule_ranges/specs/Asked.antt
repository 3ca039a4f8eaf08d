-- What the solver is asked of the stores around a position, and the room that it needs. Assumes nothing.
use Rattle.std.specs.Prelude.{◌≡◌, Bool, true, List, [], ◌∷◌, ◌++◌, ℕ, ◌+◌, ◌*◌, ◌≤◌, length}
use Rattle.constraint.specs.Tree.{Label}
use Rattle.constraint.specs.Constraint.{Satisfiable, Quiet, Fresh}
use Rattle.mem_numbers.specs.Decides.{Decides}
use Rattle.mem_words.specs.declared.Word.{Word}
use Rattle.mem_sorts.specs.declared.Kind.TheVariants.{And}
use Rattle.mem_copies.specs.Runs.{run}
use Rattle.solve_fields.specs.Read.{Distinct, Vars}
use Rattle.solve_tells.specs.Draws.{Drawn}
use Rattle.work_log.specs.Logs.{stop}
use Rattle.rule_effects.specs.Conditions.{kind_at}
use Rattle.rule_ranges.specs.Ranges.{Range, store_range, ranges_from, told_all, log_words, apps_all, locals_at}

-- each range ends within the words
unfoldable pub Within : List Word → List Range → Type 0
Within W [] = Unit {0}
Within W (r ∷ rs) = (r.from + r.len ≤ length W) × Within W rs

-- the log has room for the ranges, and there is a position for each application
pub record RoomFor (W : List Word) (rs : List Range) : Type 0 where
  pub within : Within W rs
  pub log : log_words rs ≤ 24576
  pub apps : apps_all W rs ≤ 2048

-- As it is told, the store of each and-box in the words has no variables but those of vs. Of bodies nothing is said: where a guard
-- has no and-box left, a variable of the body may be local to none, and so bodies may have more variables than there are parts.
pub record StoresDrawn (W : List Word) (vs : List ℕ) : Type 0 where
  pub at : (o : ℕ) → kind_at W o And ≡ true → Drawn (run (store_range W o).from (store_range W o).len W ++ stop) vs

-- the same of ranges, as they are told
unfoldable pub RangesDrawn : List Word → List Range → List ℕ → Type 0
RangesDrawn W [] vs = Unit {0}
RangesDrawn W (r ∷ rs) vs = Drawn (run r.from r.len W ++ stop) vs × RangesDrawn W rs vs

-- every variable of the words has a cell, and the trail has room for all different ones of their stores
pub record Roomy (W : List Word) : Type 0 where
  pub few : length W ≤ 28672
  pub vars : Vars W 65536
  pub others : List ℕ
  pub drawn : StoresDrawn W (0 ∷ others)
  pub trail : 3 * (length others + 1) + 2 ≤ 8192

-- have the store of the and-box at j and its environment a solution?
pub record SatIn (W : List Word) (j : ℕ) (r : Bool) : Type 0 where
  pub right : (lab : ℕ → Label) → Distinct lab → Decides (Satisfiable (told_all lab W (ranges_from W 0 (j + 1)))) r

-- are the stores from the goal at g down to the and-box at j quiet, with all locals inside the goal, for the goal's environment?
pub record QuietIn (W : List Word) (g j : ℕ) (r : Bool) : Type 0 where
  pub right : (lab : ℕ → Label) → Distinct lab → Fresh (locals_at W g) (told_all lab W (ranges_from W 0 g)) → Decides (Quiet (locals_at W g) (told_all lab W (ranges_from W 0 g)) (told_all lab W (ranges_from W g (j + 1)))) r
