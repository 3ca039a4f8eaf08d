use mathlib.Core.Path.{◌≡◌}
use Prim.Native.Nat.{◌≤◌}
use lib.ListN.{length, take}
use Rattle.mem_numbers.specs.Numbers.{shorts}
use Rattle.work_tables.specs.Tables.{Laid}
use Rattle.work_judge.specs.Judging.{Locals}
use Rattle.work_judge.proofs.mark_locals.Given as goal

abbrev pub invariant-loop-i : goal.invariant-loop-i
invariant-loop-i l = (l.i ≤ l.k) × (l.k ≡ length (shorts l.locals)) × Laid l.initial.w × Locals l.initial.w (take l.i (shorts l.locals)) l.w
