use Rattle.mem_numbers.specs.Numbers.{triples}
use Rattle.answer_emit.proofs.Spelling.{Spelling}
use Rattle.answer_emit.proofs.name_back.Given as goal

abbrev pub invariant-loop-k : goal.invariant-loop-k
invariant-loop-k l = Spelling (triples l.table) l.i l.initial.out l.at l.k l.j l.out

abbrev pub decreases-loop-k : goal.decreases-loop-k
decreases-loop-k l = l.k
