use Rattle.mem_words.specs.Words.{words}
use Rattle.work_tables.specs.Tables.{Laid}
use Rattle.check_marks.specs.Marking.{Marking, Named}
use Rattle.check_marks.proofs.mark.Given as goal

abbrev pub invariant-loop-j : goal.invariant-loop-j
invariant-loop-j l = Laid l.work × Named l.initial.work l.work × Marking (words l.ws) l.initial.work l.at l.l l.i l.work l.j
