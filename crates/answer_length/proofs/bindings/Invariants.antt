use Prim.Native.Nat.{◌-◌}
use Rattle.mem_numbers.specs.Numbers.{triples}
use Rattle.work_tables.specs.Tables.{cells_of, pos_of, log_of, Laid}
use Rattle.answer_stack.specs.Slots.{numbers_of}
use Rattle.answer_known.specs.Known.{known_of, Counted}
use Rattle.answer_length.proofs.Lengthening.{Lengthened}
use Rattle.answer_length.proofs.bindings.Given as goal

abbrev pub invariant-loop-i : goal.invariant-loop-i
invariant-loop-i l = Laid l.w × Counted l.initial.w l.w × Lengthened (triples l.table) (triples l.vars) (log_of l.used l.initial.w) (pos_of l.initial.w) (cells_of l.initial.w) l.m (numbers_of l.w) (known_of l.w) l.i l.c l.a
