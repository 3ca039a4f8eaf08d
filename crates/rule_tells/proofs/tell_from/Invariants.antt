use Prim.Native.Nat.{◌≤◌}
use Rattle.mem_words.specs.Words.{words}
use Rattle.rule_tells.specs.Telling.{Partly}
use Rattle.rule_tells.proofs.tell_from.Given as goal

abbrev pub invariant-loop-j : goal.invariant-loop-j
invariant-loop-j l = (l.j ≤ l.i) × Partly (words l.t) l.initial.w l.s l.i l.used l.n l.a l.w l.j l.u l.m l.b

abbrev pub decreases-loop-j : goal.decreases-loop-j
decreases-loop-j l = l.j
