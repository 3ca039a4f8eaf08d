use Prim.Native.Nat.{◌-◌}
use lib.ListN.{drop}
use Rattle.solve_fields.specs.Read.{args_of}
use Rattle.work_tables.specs.Tables.{cells_of, pos_of, log_of}
use Rattle.answer_stack.specs.Slots.{numbers_of}
use Rattle.answer_known.specs.Known.{known_of}
use Rattle.answer_size.proofs.Sizing.{Adding}
use Rattle.answer_size.proofs.arguments.Given as goal

abbrev pub invariant-loop-v : goal.invariant-loop-v
invariant-loop-v l = Adding (log_of l.used l.w) (pos_of l.w) (cells_of l.w) (numbers_of l.w) (known_of l.w) (args_of (drop l.from (log_of l.used l.w))) l.m l.a l.i l.acc

abbrev pub decreases-loop-v : goal.decreases-loop-v
decreases-loop-v l = l.used - l.i
