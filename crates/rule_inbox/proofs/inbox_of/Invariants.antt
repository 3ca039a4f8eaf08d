use Rattle.mem_words.specs.Words.{words}
use Rattle.rule_inbox.specs.Looking.{Looked}
use Rattle.rule_inbox.proofs.inbox_of.Given as goal

abbrev pub invariant-loop-j : goal.invariant-loop-j
invariant-loop-j l = Looked (words l.ws) l.i l.j l.o1 l.c1 l.o2 l.c2

abbrev pub decreases-loop-j : goal.decreases-loop-j
decreases-loop-j l = l.j
