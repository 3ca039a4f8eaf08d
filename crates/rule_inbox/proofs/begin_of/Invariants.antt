use Rattle.mem_words.specs.Words.{words}
use Rattle.rule_inbox.specs.Backwards.{Back}
use Rattle.rule_inbox.proofs.begin_of.Given as goal

abbrev pub invariant-loop-j : goal.invariant-loop-j
invariant-loop-j l = Back (words l.ws) l.c l.j l.d
