use Prim.Native.Nat.{◌≤◌}
use Rattle.mem_words.specs.Words.{words}
use Rattle.work_tables.specs.Tables.{Laid}
use Rattle.check_vartables.specs.Tables.{stack_of, links_of, names_of, Checked}
use Rattle.check_roles.specs.Steps.{Holding}
use Rattle.check_scope.proofs.walk.Given as goal

abbrev pub invariant-loop-i : goal.invariant-loop-i
invariant-loop-i l = Laid l.work × Checked l.initial.work l.work × (l.i ≤ l.n) × Holding (words l.ws) (stack_of l.work) (links_of l.work) (names_of l.work) l.k l.i
