use Prim.Native.Nat.{◌≤◌}
use Rattle.mem_numbers.specs.Numbers.{triples}
use Rattle.check_querynames.proofs.Passing.{Passing}
use Rattle.check_querynames.proofs.variables.Given as goal

abbrev pub invariant-loop-i : goal.invariant-loop-i
invariant-loop-i l = (l.i ≤ l.q) × Passing (triples l.cells) (triples l.vars) l.i
