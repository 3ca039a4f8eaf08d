use Prim.Native.Nat.{◌-◌}
use Rattle.check_vartables.specs.Tables.{stack_of}
use Rattle.check_apart.specs.Search.{Between}
use Rattle.check_apart.proofs.earlier.Given as goal

abbrev pub invariant-loop-lo : goal.invariant-loop-lo
invariant-loop-lo l = Between (stack_of l.work) l.k l.v l.lo l.hi

abbrev pub decreases-loop-lo : goal.decreases-loop-lo
decreases-loop-lo l = l.hi - l.lo
