use Rattle.answer_emit.proofs.Widening.{Widening}
use Rattle.answer_emit.proofs.width.Given as goal

abbrev pub invariant-loop-k : goal.invariant-loop-k
invariant-loop-k l = Widening l.n l.k l.c

abbrev pub decreases-loop-k : goal.decreases-loop-k
decreases-loop-k l = l.k
