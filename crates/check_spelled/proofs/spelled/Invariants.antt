use Rattle.mem_numbers.specs.Numbers.{triples}
use Rattle.check_spelled.proofs.Comparing.{Comparing}
use Rattle.check_spelled.proofs.spelled.Given as goal

abbrev pub invariant-loop-j : goal.invariant-loop-j
invariant-loop-j l = Comparing (triples l.cells) l.word l.i l.k l.j
