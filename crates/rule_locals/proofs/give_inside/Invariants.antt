use Prim.Native.Nat.{◌-◌}
use Rattle.mem_words.specs.Words.{words}
use Rattle.work_tables.specs.Tables.{Laid}
use Rattle.rule_locals.specs.Inside.{Marked, EndsAt}
use Rattle.rule_locals.proofs.give_inside.Given as goal

abbrev pub invariant-loop-j : goal.invariant-loop-j
invariant-loop-j l = Laid l.initial.w × EndsAt (words l.t) l.g l.e × Marked (words l.t) l.g l.e l.v l.initial.w l.w l.j l.b

abbrev pub decreases-loop-j : goal.decreases-loop-j
decreases-loop-j l = l.e - l.j
