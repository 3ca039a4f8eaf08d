use Rattle.mem_numbers.specs.Numbers.{triples}
use Rattle.check_distinct.proofs.Walking.{Walking}
use Rattle.check_distinct.proofs.walk.Given as goal

abbrev pub invariant-loop-q : goal.invariant-loop-q
invariant-loop-q l = Walking (triples l.cells) l.initial.w l.p l.w l.q

abbrev pub decreases-loop-q : goal.decreases-loop-q
decreases-loop-q l = l.q
