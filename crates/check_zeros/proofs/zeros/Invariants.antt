use Rattle.check_zeros.specs.Zeros.{ZeroTo}
use Rattle.check_zeros.proofs.zeros.Given as goal

abbrev pub invariant-loop-i : goal.invariant-loop-i
invariant-loop-i l = ZeroTo l.b l.a l.e l.i
