-- The invariant: what is written and what is to come is the term's text. Assumes nothing.
use native.Mathlib.Omega.{arith}
use Rattle.mem_numbers.specs.Numbers.{triples}
use Rattle.mem_parts.specs.Parts.{outside_then}
use Rattle.work_tables.specs.Tables.{cells_of, pos_of, log_of, laid_after}
use Rattle.answer_stack.specs.Slots.{numbers_of, places_of, begun_of, same_answered}
use Rattle.answer_print.proofs.Walking.{walk_start, walk_ready, walk_as, less_as, walk_more, walk_less, walk_over, walk_done, shown_to, ready_to, turned_at}
use Rattle.answer_print.proofs.term.Goals as goal

pub loop-out-init : goal.loop-out-init
loop-out-init c = (c.requires.0, same_answered, walk_start (triples c.args.table.now) (log_of c.args.used c.args.w.now) (pos_of c.args.w.now) (cells_of c.args.w.now) (numbers_of c.args.w.now) (places_of c.args.w.now) (begun_of c.args.w.now) c.args.x.0 c.args.count c.args.out.now c.args.at c.args.write c.requires.3)

pub returns-then-out-turn : goal.returns-then-out-turn
returns-then-out-turn c = (walk_over (triples c.args.table.now) (log_of c.args.used c.args.w.now) (pos_of c.args.w.now) (cells_of c.args.w.now) c.loop-out.invariant.2 (omega arith), c.loop-out.invariant.1)

pub begin-turn-requires : goal.begin-turn-requires
begin-turn-requires c = (c.loop-out.invariant.0, c.requires.1, shown_to c.args.used c.requires.1 c.requires.0 c.loop-out.invariant.1 c.requires.2, ready_to c.args.used c.requires.1 c.requires.0 c.loop-out.invariant.1 (walk_ready (triples c.args.table.now) (log_of c.args.used c.args.w.now) (pos_of c.args.w.now) (cells_of c.args.w.now) c.requires.3.seen c.requires.3.numbers (walk_as (triples c.args.table.now) (log_of c.args.used c.args.w.now) (pos_of c.args.w.now) (cells_of c.args.w.now) c.in-Some.is c.loop-out.invariant.2)))

pub loop-out-smaller-in-Some : goal.loop-out-smaller-in-Some
loop-out-smaller-in-Some c = less_as (triples c.args.table.now) (log_of c.args.used c.args.w.now) (pos_of c.args.w.now) (cells_of c.args.w.now) _ _ _ c.in-Some.is (walk_less (triples c.args.table.now) (log_of c.args.used c.args.w.now) (pos_of c.args.w.now) (cells_of c.args.w.now) c.requires.3.seen c.requires.3.numbers (walk_as (triples c.args.table.now) (log_of c.args.used c.args.w.now) (pos_of c.args.w.now) (cells_of c.args.w.now) c.in-Some.is c.loop-out.invariant.2) (turned_at c.args.used c.requires.1 c.requires.0 c.loop-out.invariant.1 c.begin-turn.ensures.0))

pub loop-out-preserved-in-Some : goal.loop-out-preserved-in-Some
loop-out-preserved-in-Some c = (laid_after c.loop-out.invariant.0 c.begin-turn.ensures.1, outside_then c.loop-out.invariant.1 c.begin-turn.ensures.1, walk_more (triples c.args.table.now) (log_of c.args.used c.args.w.now) (pos_of c.args.w.now) (cells_of c.args.w.now) c.begin-turn.auto.out (walk_as (triples c.args.table.now) (log_of c.args.used c.args.w.now) (pos_of c.args.w.now) (cells_of c.args.w.now) c.in-Some.is c.loop-out.invariant.2) (turned_at c.args.used c.requires.1 c.requires.0 c.loop-out.invariant.1 c.begin-turn.ensures.0))

pub returns-then-turn-eq0 : goal.returns-then-turn-eq0
returns-then-turn-eq0 c = (walk_done (triples c.args.table.now) (log_of c.args.used c.args.w.now) (pos_of c.args.w.now) (cells_of c.args.w.now) (walk_as (triples c.args.table.now) (log_of c.args.used c.args.w.now) (pos_of c.args.w.now) (cells_of c.args.w.now) c.in-None.is c.loop-out.invariant.2) c.if-turn-eq0.true, c.loop-out.invariant.1)

pub behind-turn-requires : goal.behind-turn-requires
behind-turn-requires c = (c.loop-out.invariant.0, c.requires.1, shown_to c.args.used c.requires.1 c.requires.0 c.loop-out.invariant.1 c.requires.2, ready_to c.args.used c.requires.1 c.requires.0 c.loop-out.invariant.1 (walk_ready (triples c.args.table.now) (log_of c.args.used c.args.w.now) (pos_of c.args.w.now) (cells_of c.args.w.now) c.requires.3.seen c.requires.3.numbers (walk_as (triples c.args.table.now) (log_of c.args.used c.args.w.now) (pos_of c.args.w.now) (cells_of c.args.w.now) c.in-None.is c.loop-out.invariant.2)), omega (arith, c.if-turn-eq0.false))

pub loop-out-smaller : goal.loop-out-smaller
loop-out-smaller c = less_as (triples c.args.table.now) (log_of c.args.used c.args.w.now) (pos_of c.args.w.now) (cells_of c.args.w.now) _ _ _ c.in-None.is (walk_less (triples c.args.table.now) (log_of c.args.used c.args.w.now) (pos_of c.args.w.now) (cells_of c.args.w.now) c.requires.3.seen c.requires.3.numbers (walk_as (triples c.args.table.now) (log_of c.args.used c.args.w.now) (pos_of c.args.w.now) (cells_of c.args.w.now) c.in-None.is c.loop-out.invariant.2) (turned_at c.args.used c.requires.1 c.requires.0 c.loop-out.invariant.1 c.behind-turn.ensures.0))

pub loop-out-preserved : goal.loop-out-preserved
loop-out-preserved c = (laid_after c.loop-out.invariant.0 c.behind-turn.ensures.1, outside_then c.loop-out.invariant.1 c.behind-turn.ensures.1, walk_more (triples c.args.table.now) (log_of c.args.used c.args.w.now) (pos_of c.args.w.now) (cells_of c.args.w.now) c.behind-turn.auto.out (walk_as (triples c.args.table.now) (log_of c.args.used c.args.w.now) (pos_of c.args.w.now) (cells_of c.args.w.now) c.in-None.is c.loop-out.invariant.2) (turned_at c.args.used c.requires.1 c.requires.0 c.loop-out.invariant.1 c.behind-turn.ensures.0))
