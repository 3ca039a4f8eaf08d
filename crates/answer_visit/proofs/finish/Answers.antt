-- The invariant: what is done and what is to come. Assumes nothing.
use native.Mathlib.Omega.{arith}
use Rattle.mem_numbers.specs.Numbers.{triples}
use Rattle.mem_parts.specs.Parts.{outside_then}
use Rattle.work_tables.specs.Tables.{cells_of, pos_of, log_of, laid_after}
use Rattle.answer_stack.specs.Slots.{numbers_of, places_of, begun_of}
use Rattle.answer_known.specs.Known.{known_of, same_counted}
use Rattle.answer_visit.proofs.Searching.{search_start, search_can, search_more, search_less, search_done, shown_to, can_turn_to, turned_at}
use Rattle.answer_visit.proofs.finish.Goals as goal

pub loop-stand-init : goal.loop-stand-init
loop-stand-init c = (c.requires.0, same_counted, search_start (triples c.args.table.now) (log_of c.args.used c.args.w.now) (pos_of c.args.w.now) (cells_of c.args.w.now) (places_of c.args.w.now) (begun_of c.args.w.now) (numbers_of c.args.w.now) (known_of c.args.w.now) c.args.at.high c.args.at.count c.args.m)

pub behind-stand-requires : goal.behind-stand-requires
behind-stand-requires c = (c.loop-stand.invariant.0, c.requires.1, c.requires.2, shown_to c.args.used c.requires.1 c.requires.0 c.loop-stand.invariant.1 c.requires.3, can_turn_to c.args.used c.requires.1 c.requires.0 c.loop-stand.invariant.1 (search_can (triples c.args.table.now) (log_of c.args.used c.args.w.now) (pos_of c.args.w.now) (cells_of c.args.w.now) c.requires.4 c.loop-stand.invariant.2), omega arith)

pub loop-stand-smaller : goal.loop-stand-smaller
loop-stand-smaller c = search_less (triples c.args.table.now) (log_of c.args.used c.args.w.now) (pos_of c.args.w.now) (cells_of c.args.w.now) c.requires.4 c.loop-stand.invariant.2 (turned_at c.args.used c.requires.1 c.requires.0 c.loop-stand.invariant.1 c.behind-stand.ensures.0)

pub loop-stand-preserved : goal.loop-stand-preserved
loop-stand-preserved c = (laid_after c.loop-stand.invariant.0 c.behind-stand.ensures.1, outside_then c.loop-stand.invariant.1 c.behind-stand.ensures.1, search_more (triples c.args.table.now) (log_of c.args.used c.args.w.now) (pos_of c.args.w.now) (cells_of c.args.w.now) c.loop-stand.invariant.2 (turned_at c.args.used c.requires.1 c.requires.0 c.loop-stand.invariant.1 c.behind-stand.ensures.0))

pub returns : goal.returns
returns c = (search_done (triples c.args.table.now) (log_of c.args.used c.args.w.now) (pos_of c.args.w.now) (cells_of c.args.w.now) c.loop-stand.invariant.2 (omega arith), c.loop-stand.invariant.1)
