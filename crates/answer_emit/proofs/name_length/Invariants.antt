use Rattle.mem_numbers.specs.Numbers.{triples}
use Rattle.answer_emit.proofs.Spelling.{Counting}
use Rattle.answer_emit.proofs.name_length.Given as goal

abbrev pub invariant-loop-k : goal.invariant-loop-k
invariant-loop-k l = Counting (triples l.table) l.i l.k l.c

abbrev pub decreases-loop-k : goal.decreases-loop-k
decreases-loop-k l = l.k
