use Prim.Native.Nat.{◌-◌}
use Rattle.mem_numbers.specs.Numbers.{triples}
use Rattle.work_tables.specs.Tables.{cells_of, pos_of, log_of, Laid}
use Rattle.answer_stack.specs.Slots.{numbers_of, Answered}
use Rattle.answer_line.proofs.Lining.{Lined}
use Rattle.answer_line.proofs.bindings.Given as goal

abbrev pub invariant-loop-i : goal.invariant-loop-i
invariant-loop-i l = Laid l.w × Answered l.initial.w l.w × Lined (triples l.table) (triples l.vars) (log_of l.used l.initial.w) (pos_of l.initial.w) (cells_of l.initial.w) l.initial.out l.write (numbers_of l.w) l.out l.i l.c l.a
