use Rattle.mem_words.specs.Words.{words}
use Rattle.check_run.specs.Running.{Running}
use Rattle.check_run.proofs.run.Given as goal

abbrev pub invariant-loop-i : goal.invariant-loop-i
invariant-loop-i l = Running l.initial.w l.m l.free (words l.b) l.initial.x l.w l.i l.h l.x
