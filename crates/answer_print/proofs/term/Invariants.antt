use Rattle.mem_numbers.specs.Numbers.{triples}
use Rattle.work_tables.specs.Tables.{cells_of, pos_of, log_of, Laid}
use Rattle.answer_stack.specs.Slots.{numbers_of, places_of, begun_of, Answered}
use Rattle.answer_turn.specs.Turning.{term_in, left, goes, comes}
use Rattle.answer_print.proofs.Walking.{Walking}
use Rattle.answer_print.proofs.term.Given as goal

abbrev pub invariant-loop-out : goal.invariant-loop-out
invariant-loop-out l = Laid l.w × Answered l.initial.w l.w × Walking (triples l.table) (log_of l.used l.initial.w) (pos_of l.initial.w) (cells_of l.initial.w) (numbers_of l.initial.w) l.fn.x.0 l.count l.initial.out l.at l.write (places_of l.w) (begun_of l.w) (numbers_of l.w) l.out (goes l.turn.next) (comes l.turn.next) l.turn.high l.turn.count l.turn.at

abbrev pub decreases-loop-out : goal.decreases-loop-out
decreases-loop-out l = left (term_in (triples l.table) (log_of l.used l.initial.w) (pos_of l.initial.w) (cells_of l.initial.w)) (log_of l.used l.initial.w) (places_of l.w) (begun_of l.w) (goes l.turn.next) (comes l.turn.next) l.turn.high
