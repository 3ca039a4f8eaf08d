use Rattle.mem_numbers.specs.Numbers.{triples}
use Rattle.work_tables.specs.Tables.{cells_of, pos_of, log_of, Laid}
use Rattle.answer_walk.specs.Walk.{turns}
use Rattle.answer_stack.specs.Slots.{numbers_of, places_of, begun_of}
use Rattle.answer_known.specs.Known.{known_of, Counted}
use Rattle.answer_order.specs.Order.{lefts}
use Rattle.answer_turn.specs.Turning.{term_in}
use Rattle.answer_visit.proofs.Searching.{Searching}
use Rattle.answer_visit.proofs.finish.Given as goal

abbrev pub invariant-loop-stand : goal.invariant-loop-stand
invariant-loop-stand l = Laid l.w × Counted l.initial.w l.w × Searching (triples l.table) (log_of l.used l.initial.w) (pos_of l.initial.w) (cells_of l.initial.w) (places_of l.initial.w) (begun_of l.initial.w) (numbers_of l.initial.w) (known_of l.initial.w) l.fn.at.high l.fn.at.count l.m (places_of l.w) (begun_of l.w) (numbers_of l.w) (known_of l.w) l.stand.high l.stand.count

abbrev pub decreases-loop-stand : goal.decreases-loop-stand
decreases-loop-stand l = turns (term_in (triples l.table) (log_of l.used l.initial.w) (pos_of l.initial.w) (cells_of l.initial.w)) (lefts (log_of l.used l.initial.w) (pos_of l.initial.w) (places_of l.w) (begun_of l.w) l.stand.high)
