-- The quiet test on a walk, since any of its marks: what is asked, and what is handed back. Assumes nothing.
use Rattle.std.specs.Prelude.{◌≡◌, Bool, List, ◌∷◌, ◌++◌, ℕ, ◌+◌, ◌*◌, ◌≤◌, length}
use Rattle.constraint.specs.Tree.{Label}
use Rattle.constraint.specs.Constraint.{Satisfiable, Quiet, Fresh}
use Rattle.mem_numbers.specs.Decides.{Decides}
use Rattle.solve_tells.specs.Draws.{Drawn}
use Rattle.solve_quiet.specs.Solver.{Marking}
use Rattle.work_tables.specs.Tables.{log_of, locals_of, Tried}
use Rattle.work_marks.specs.Marks.{Mark, trail_at, all_told}
use Rattle.work_enter.specs.Enters.{At}

-- the slice L is at the mark (used, n, a) of some walk, whose trail was `from` long at a mark below, and the trail has room for the
-- different variables of the log
pub record CanSilence (L : List ℕ) (used n a from : ℕ) : Type 0 where
  pub news : List Mark
  pub below : List Mark
  pub at : At L used n a (news ++ below)
  pub since : trail_at below ≡ from
  pub others : List ℕ
  pub logged : Drawn (log_of used L) (0 ∷ others)
  pub trail : 3 * (length others + 1) + 2 ≤ 8192

-- for every walk that is at that mark: is what was told since the mark below quiet, with the marked variables as locals, for what was
-- told up to it? It is still at that mark.
pub record Silence (L : List ℕ) (used n a from : ℕ) (X : List ℕ) (r : Bool) : Type 0 where
  pub right : (news below : List Mark) → At L used n a (news ++ below) → trail_at below ≡ from → (lab : ℕ → Label) (vs : List ℕ) → Marking (locals_of L) vs → Fresh vs (all_told lab below) → Satisfiable (all_told lab below) → Decides (Quiet vs (all_told lab below) (all_told lab news)) r
  pub still : (ms : List Mark) → At L used n a ms → At X used n a ms
  pub rest : Tried L X
