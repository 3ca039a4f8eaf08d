-- The innermost and-box of a walk left. Assumes nothing.
use Rattle.std.specs.Prelude.{◌≡◌, List, ◌++◌, ℕ, suc, ◌≤◌}
use Rattle.work_tables.specs.Tables.{Moved}
use Rattle.work_marks.specs.Marks.{Mark, trail_at, apps_at, used_at}
use Rattle.work_enter.specs.Enters.{At}
use Rattle.step_frames.specs.Frames.{frames_of, Frame}
use Rattle.step_turn.specs.declared.Stand.{Stand}

-- the slice L is at a mark of a walk whose trail is n long; the marks news go, and the h-th entry of the stack is the mark below them
pub record Over (L : List ℕ) (h d n : ℕ) (news below : List Mark) : Type 0 where
  pub used : ℕ
  pub apps : ℕ
  pub at : At L used n apps (news ++ below)
  pub frame : Frame (frames_of L) h d (used_at below) (trail_at below) (apps_at below)

pub record CanLeave (L : List ℕ) (k n : ℕ) : Type 0 where
  pub height : ℕ
  pub some : k ≡ suc height
  pub few : k ≤ 8192
  pub depth : ℕ
  pub news : List Mark
  pub below : List Mark
  pub over : Over L height depth n news below

-- the walk is at the latest of the marks below
pub record Left (L : List ℕ) (k n : ℕ) (X : List ℕ) (r : Stand) : Type 0 where
  pub back : (h d : ℕ) (news below : List Mark) → k ≡ suc h → Over L h d n news below → (r.depth ≡ d) × (r.boxes ≡ h) × At X r.mark.used r.mark.trail r.mark.applications below
  pub rest : Moved L X
