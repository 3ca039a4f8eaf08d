-- The invariant: what is counted and what is to come is the line's length. Assumes nothing.
use Prim.Native.Nat.{◌-◌}
use native.Mathlib.Omega.{arith}
use Rattle.mem_numbers.specs.Numbers.{triples}
use Rattle.mem_parts.specs.Parts.{outside_then}
use Rattle.work_tables.specs.Tables.{cells_of, pos_of, log_of, laid_after}
use Rattle.answer_stack.specs.Slots.{numbers_of}
use Rattle.answer_known.specs.Known.{known_of, same_counted}
use Rattle.answer_line.proofs.Lining.{low_name}
use Rattle.answer_visit.proofs.Searching.{shown_to}
use Rattle.answer_length.proofs.Lengthening.{long_start, long_at, long_can, long_last, long_more, can_visit_to, bound_at}
use Rattle.answer_length.proofs.bindings.Goals as goal

pub loop-i-init : goal.loop-i-init
loop-i-init c = (c.requires.0, same_counted, long_start (triples c.args.table.now) (log_of c.args.used c.args.w.now) (pos_of c.args.w.now) (cells_of c.args.w.now) (triples c.args.vars.now) (numbers_of c.args.w.now) (known_of c.args.w.now) c.args.m (omega (arith, c.requires.7, c.requires.8)) c.requires.5 c.requires.6)

pub get-v-requires-clause-inside : goal.get-v-requires-clause-inside
get-v-requires-clause-inside c = omega (arith, c.loop-i.invariant.2.inside)

pub binding-t-requires : goal.binding-t-requires
binding-t-requires c = (c.loop-i.invariant.0, c.requires.1, c.requires.2, shown_to c.args.used c.requires.1 c.requires.0 c.loop-i.invariant.1 c.requires.3, can_visit_to c.args.used c.requires.1 c.requires.0 c.loop-i.invariant.1 (long_can (triples c.args.table.now) (log_of c.args.used c.args.w.now) (pos_of c.args.w.now) (cells_of c.args.w.now) (omega (arith, c.loop-i.invariant.2.inside, c.requires.4.few)) c.loop-i.invariant.2), low_name c.requires.4 c.get-v.ensures.is (omega (arith, c.loop-i.invariant.2.inside)))

pub plus-a-requires : goal.plus-a-requires
plus-a-requires c = omega (arith, c.requires.2)

pub loop-i-preserved : goal.loop-i-preserved
loop-i-preserved c = (laid_after c.loop-i.invariant.0 c.binding-t.ensures.1, outside_then c.loop-i.invariant.1 c.binding-t.ensures.1, long_more (triples c.args.table.now) (log_of c.args.used c.args.w.now) (pos_of c.args.w.now) (cells_of c.args.w.now) (triples c.args.vars.now) c.get-v.ensures.is c.loop-i.invariant.2 (bound_at c.args.used c.requires.1 c.requires.0 c.loop-i.invariant.1 c.binding-t.ensures.0) (λ q. omega (arith, q, c.requires.7)) c.plus-a.ensures)

pub get-v-requires-2-clause-inside : goal.get-v-requires-2-clause-inside
get-v-requires-2-clause-inside c = omega (arith, c.requires.7, c.requires.8)

pub binding-t-requires-2 : goal.binding-t-requires-2
binding-t-requires-2 c = (c.loop-i.invariant.0, c.requires.1, c.requires.2, shown_to c.args.used c.requires.1 c.requires.0 c.loop-i.invariant.1 c.requires.3, can_visit_to c.args.used c.requires.1 c.requires.0 c.loop-i.invariant.1 (long_can (triples c.args.table.now) (log_of c.args.used c.args.w.now) (pos_of c.args.w.now) (cells_of c.args.w.now) (omega (arith, c.requires.7, c.requires.8, c.requires.4.few)) (long_at (triples c.args.table.now) (log_of c.args.used c.args.w.now) (pos_of c.args.w.now) (cells_of c.args.w.now) {j = c.args.n - 1} (omega arith) c.loop-i.invariant.2)), low_name c.requires.4 c.get-v-2.ensures.is (omega (arith, c.requires.7, c.requires.8)))

pub returns : goal.returns
returns c = (long_last (triples c.args.table.now) (log_of c.args.used c.args.w.now) (pos_of c.args.w.now) (cells_of c.args.w.now) (triples c.args.vars.now) c.get-v-2.ensures.is (long_at (triples c.args.table.now) (log_of c.args.used c.args.w.now) (pos_of c.args.w.now) (cells_of c.args.w.now) {j = c.args.n - 1} (omega arith) c.loop-i.invariant.2) (bound_at c.args.used c.requires.1 c.requires.0 c.loop-i.invariant.1 c.binding-t-2.ensures.0) (omega (arith, c.requires.7, c.requires.8)), outside_then c.loop-i.invariant.1 c.binding-t-2.ensures.1)
