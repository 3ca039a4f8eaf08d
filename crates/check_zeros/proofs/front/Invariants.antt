use Prim.Native.Nat.{◌-◌}
use Rattle.check_zeros.specs.Zeros.{ZeroTo}
use Rattle.check_zeros.proofs.front.Given as goal

abbrev pub invariant-loop-i : goal.invariant-loop-i
invariant-loop-i l = ZeroTo l.b l.a l.e l.i

abbrev pub decreases-loop-i : goal.decreases-loop-i
decreases-loop-i l = l.e - l.i
