use Rattle.answer_emit.proofs.Backwards.{Printing}
use Rattle.answer_emit.proofs.digits_back.Given as goal

abbrev pub invariant-loop-j : goal.invariant-loop-j
invariant-loop-j l = Printing l.n l.len l.initial.out l.at l.k l.j l.out
