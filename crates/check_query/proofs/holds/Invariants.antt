use Rattle.mem_words.specs.Words.{words}
use Rattle.check_query.specs.Steps.{Looking}
use Rattle.check_query.proofs.holds.Given as goal

abbrev pub invariant-loop-j : goal.invariant-loop-j
invariant-loop-j l = Looking l.x (words l.ws) l.i l.j
