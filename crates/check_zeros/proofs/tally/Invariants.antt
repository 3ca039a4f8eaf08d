use Prim.Native.Nat.{◌≤◌}
use Rattle.check_zeros.specs.Zeros.{Tallied}
use Rattle.check_zeros.proofs.tally.Given as goal

abbrev pub invariant-loop-k : goal.invariant-loop-k
invariant-loop-k l = (l.k ≤ 128) × Tallied l.b l.i l.k l.s
