use Prim.Native.Nat.{◌-◌, ◌≤◌}
use Rattle.mem_words.specs.Words.{words}
use Rattle.store_parts.specs.Counts.{Counted}
use Rattle.store_parts.proofs.run.Given as goal

abbrev pub invariant-loop-j : goal.invariant-loop-j
invariant-loop-j l = (l.j ≤ l.e) × Counted (words l.ws) l.initial.a l.i l.a l.r l.j
