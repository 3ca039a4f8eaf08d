use Rattle.mem_numbers.specs.Numbers.{triples}
use Rattle.check_namemarks.proofs.Marking.{Marking}
use Rattle.check_namemarks.proofs.mark_all.Given as goal

abbrev pub invariant-loop-i : goal.invariant-loop-i
invariant-loop-i l = Marking (triples l.cells) l.initial.w l.n l.w l.i
