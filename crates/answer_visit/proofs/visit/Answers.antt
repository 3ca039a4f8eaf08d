-- The root, and then the stack. Assumes nothing.
use Rattle.mem_numbers.specs.Numbers.{triples}
use Rattle.mem_parts.specs.Parts.{outside_then}
use Rattle.work_tables.specs.Tables.{cells_of, pos_of, log_of, laid_after}
use Rattle.answer_stack.specs.Slots.{places_of, begun_of}
use Rattle.answer_known.specs.Known.{counted_of}
use Rattle.answer_visit.proofs.Searching.{root_can, root_turn, root_visited, shown_to, can_turn_to, finished_at}
use Rattle.answer_visit.proofs.visit.Goals as goal

pub begin-t-requires : goal.begin-t-requires
begin-t-requires c = (c.requires.0, root_can (triples c.args.table.now) (log_of c.args.used c.args.w.now) (pos_of c.args.w.now) (cells_of c.args.w.now) c.requires.3 (places_of c.args.w.now) (begun_of c.args.w.now) c.requires.4)

pub finish-requires : goal.finish-requires
finish-requires c = (laid_after c.requires.0 c.begin-t.ensures.1, c.requires.1, c.requires.2, shown_to c.args.used c.requires.1 c.requires.0 (counted_of c.begin-t.ensures.1) c.requires.3, can_turn_to c.args.used c.requires.1 c.requires.0 (counted_of c.begin-t.ensures.1) (root_turn (triples c.args.table.now) (log_of c.args.used c.args.w.now) (pos_of c.args.w.now) (cells_of c.args.w.now) c.requires.3 (places_of c.args.w.now) (begun_of c.args.w.now) c.begin-t.ensures.0 c.requires.4))

pub returns : goal.returns
returns c = (root_visited (triples c.args.table.now) (log_of c.args.used c.args.w.now) (pos_of c.args.w.now) (cells_of c.args.w.now) c.requires.3 (places_of c.args.w.now) (begun_of c.args.w.now) c.begin-t.ensures.0 c.requires.4 (finished_at c.args.used c.requires.1 c.requires.0 (counted_of c.begin-t.ensures.1) c.finish.ensures.0), outside_then (counted_of c.begin-t.ensures.1) c.finish.ensures.1)
