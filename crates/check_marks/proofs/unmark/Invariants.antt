use Rattle.mem_words.specs.Words.{words}
use Rattle.work_tables.specs.Tables.{Laid}
use Rattle.check_marks.specs.Marking.{Unmarking, Named}
use Rattle.check_marks.proofs.unmark.Given as goal

abbrev pub invariant-loop-j : goal.invariant-loop-j
invariant-loop-j l = Laid l.work × Named l.initial.work l.work × Unmarking (words l.ws) l.initial.work l.at l.work l.j
