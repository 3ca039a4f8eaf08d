use Prim.Native.Nat.{◌-◌}
use lib.ListN.{length}
use Rattle.mem_numbers.specs.Numbers.{triples}
use Rattle.read_statements.proofs.Stepping.{Sofar}
use Rattle.read_statements.proofs.statement_end.Given as goal

abbrev pub invariant-loop-onward : goal.invariant-loop-onward
invariant-loop-onward l = Sofar (triples l.codes) (length l.initial.stack) l.at l.stack l.i l.h

abbrev pub decreases-loop-onward : goal.decreases-loop-onward
decreases-loop-onward l = length (triples l.codes) - l.i
