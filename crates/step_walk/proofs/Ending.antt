-- The end of a walk: what was told is taken back, or cells are made zero; nothing is told then, and the marks are as they were.
-- Assumes nothing.
use mathlib.Core.List.{List, []}
use Prim.Native.Nat.{ℕ}
use native.Mathlib.Omega.{arith}
use Rattle.mem_words.specs.declared.Word.{Word}
use Rattle.mem_parts.specs.Parts.{Zeroed, outside_wide}
use Rattle.solve_quiet.specs.Solver.{Marking}
use Rattle.work_tables.specs.Tables.{locals_of, Laid}
use Rattle.work_ranges.specs.Backs.{BackIn}
use Rattle.work_marks.specs.Marks.{Walk, Returns}
use Rattle.work_marks.proofs.Walking.{walk_back}
use Rattle.rule_solve.proofs.Starts.{start_at}
use Rattle.rule_solve.proofs.Idling.{marks_kept, at_returns}
use Rattle.step_turn.specs.Stood.{Stood}

pub over_returns : {W : List Word} {g from : ℕ} {X : List ℕ} {j d k used n a : ℕ} → Stood W g from X j d k used n a → Returns X n []
over_returns {X = X} {used = used} {n = n} {a = a} s = at_returns _ X used n a s.at

pub over_walk : {X : List ℕ} {n : ℕ} → Returns X n [] → (Y : List ℕ) → BackIn X n 0 Y → Walk Y []
over_walk {X} {n} r Y b = walk_back [] X Y n r b

pub over_marks : {X Y : List ℕ} {n : ℕ} (vs : List ℕ) → BackIn X n 0 Y → Marking (locals_of X) vs → Marking (locals_of Y) vs
over_marks vs b m = marks_kept vs (outside_wide 0 335872 (omega arith) (omega arith) b.rest) m

pub zero_walk : {X Y : List ℕ} → Laid X → Zeroed 16384 212992 X Y → Walk Y []
zero_walk h z = (start_at h z).walk

pub zero_marks : {X Y : List ℕ} (vs : List ℕ) → Zeroed 16384 212992 X Y → Marking (locals_of X) vs → Marking (locals_of Y) vs
zero_marks vs z m = marks_kept vs (outside_wide 0 335872 (omega arith) (omega arith) z.rest) m
