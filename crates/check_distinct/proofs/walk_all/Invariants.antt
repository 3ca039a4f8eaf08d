use Rattle.mem_numbers.specs.Numbers.{triples}
use Rattle.check_distinct.proofs.Walking.{Going}
use Rattle.check_distinct.proofs.walk_all.Given as goal

abbrev pub invariant-loop-p : goal.invariant-loop-p
invariant-loop-p l = Going (triples l.cells) l.initial.w l.n l.w l.p
