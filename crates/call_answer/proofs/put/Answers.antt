-- The tables of names and variables as they are lent; the length decides. Assumes nothing.
use native.Mathlib.Omega.{arith}
use Rattle.mem_parts.specs.Parts.{cut}
use Rattle.work_tables.specs.Tables.{laid_after}
use Rattle.store_views.proofs.Header.{can_read, was_read}
use Rattle.call_answer.proofs.Views.{names_within, variables_within}
use Rattle.call_answer.proofs.Lines.{shown_lent, can_lent, line_long, shown_again, line_within, line_put}
use Rattle.call_answer.proofs.put.Goals as goal

pub get-k-requires-clause-can : goal.get-k-requires-clause-can
get-k-requires-clause-can c = can_read _ _ _ (omega arith) (omega (arith, c.requires.2))

pub get-v-requires-clause-can : goal.get-v-requires-clause-can
get-v-requires-clause-can c = can_read _ _ _ (omega arith) (omega (arith, c.requires.2))

pub overflow_mul-a : goal.overflow_mul-a
overflow_mul-a c = omega (arith, c.get-k.ensures.small)

pub overflow_add-a : goal.overflow_add-a
overflow_add-a c = omega (arith, c.get-k.ensures.small)

pub overflow_mul-e : goal.overflow_mul-e
overflow_mul-e c = omega (arith, c.get-v.ensures.small)

pub overflow_add-e : goal.overflow_add-e
overflow_add-e c = omega (arith, c.get-v.ensures.small)

pub slice_bounds-text_end-count : goal.slice_bounds-text_end-count
slice_bounds-text_end-count c = omega arith

pub slice_bounds-text_end-start : goal.slice_bounds-text_end-start
slice_bounds-text_end-start c = omega arith

pub slice_bounds-text_end-end : goal.slice_bounds-text_end-end
slice_bounds-text_end-end c = omega (arith, names_within c.args.store.now c.requires.3.holds c.get-k.result (was_read c.args.store.now 1 _ c.get-k.ensures).0, c.requires.2)

pub slice_bounds-text_end-count-2 : goal.slice_bounds-text_end-count-2
slice_bounds-text_end-count-2 c = omega arith

pub slice_bounds-text_end-start-2 : goal.slice_bounds-text_end-start-2
slice_bounds-text_end-start-2 c = omega arith

pub slice_bounds-text_end-end-2 : goal.slice_bounds-text_end-end-2
slice_bounds-text_end-end-2 c = omega (arith, variables_within c.args.store.now c.requires.3.holds c.get-v.result (was_read c.args.store.now 3 _ c.get-v.ensures).0, c.requires.2)

pub text_end-r-requires : goal.text_end-r-requires
unfolding cut
text_end-r-requires c = (c.requires.0, c.requires.1, shown_lent c.args.store.now c.args.number c.args.used _ c.requires.3 c.get-k.result c.get-v.result (was_read c.args.store.now 1 _ c.get-k.ensures).0 (was_read c.args.store.now 3 _ c.get-v.ensures).0, can_lent c.args.store.now c.args.number c.args.used _ c.requires.3 c.get-k.result c.get-v.result (was_read c.args.store.now 1 _ c.get-k.ensures).0 (was_read c.args.store.now 3 _ c.get-v.ensures).0)

pub returns-then-out-r : goal.returns-then-out-r
unfolding cut
returns-then-out-r c = line_long c.args.store.now c.args.number c.args.used _ c.requires.3 c.get-k.result c.get-v.result (was_read c.args.store.now 1 _ c.get-k.ensures).0 (was_read c.args.store.now 3 _ c.get-v.ensures).0 _ _ _ c.text_end-r.ensures.0 (omega arith)

pub slice_bounds-line-count : goal.slice_bounds-line-count
slice_bounds-line-count c = omega arith

pub slice_bounds-line-start : goal.slice_bounds-line-start
slice_bounds-line-start c = omega arith

pub slice_bounds-line-end : goal.slice_bounds-line-end
slice_bounds-line-end c = omega (arith, names_within c.args.store.now c.requires.3.holds c.get-k.result (was_read c.args.store.now 1 _ c.get-k.ensures).0, c.requires.2)

pub slice_bounds-line-count-2 : goal.slice_bounds-line-count-2
slice_bounds-line-count-2 c = omega arith

pub slice_bounds-line-start-2 : goal.slice_bounds-line-start-2
slice_bounds-line-start-2 c = omega arith

pub slice_bounds-line-end-2 : goal.slice_bounds-line-end-2
slice_bounds-line-end-2 c = omega (arith, variables_within c.args.store.now c.requires.3.holds c.get-v.result (was_read c.args.store.now 3 _ c.get-v.ensures).0, c.requires.2)

pub line-q-requires : goal.line-q-requires
unfolding cut
line-q-requires c = (laid_after c.requires.0 c.text_end-r.ensures.1, c.requires.1, shown_again c.args.store.now c.args.number c.args.used _ c.requires.3 c.get-k.result c.get-v.result (was_read c.args.store.now 1 _ c.get-k.ensures).0 (was_read c.args.store.now 3 _ c.get-v.ensures).0 _ _ _ c.text_end-r.ensures.0 _ c.requires.0 c.requires.1 c.text_end-r.ensures.1, can_lent c.args.store.now c.args.number c.args.used _ c.requires.3 c.get-k.result c.get-v.result (was_read c.args.store.now 1 _ c.get-k.ensures).0 (was_read c.args.store.now 3 _ c.get-v.ensures).0)

pub above-requires : goal.above-requires
unfolding cut
above-requires c = line_within c.args.store.now c.args.number c.args.used _ c.requires.3 c.get-k.result c.get-v.result (was_read c.args.store.now 1 _ c.get-k.ensures).0 (was_read c.args.store.now 3 _ c.get-v.ensures).0 _ _ _ c.text_end-r.ensures.0 _ c.requires.0 c.requires.1 c.text_end-r.ensures.1 _ _ c.line-q.ensures.0 c.if-out-r.false

pub returns : goal.returns
unfolding cut
returns c = line_put c.args.store.now c.args.number c.args.used _ c.requires.3 c.get-k.result c.get-v.result (was_read c.args.store.now 1 _ c.get-k.ensures).0 (was_read c.args.store.now 3 _ c.get-v.ensures).0 _ _ _ c.text_end-r.ensures.0 _ c.requires.0 c.requires.1 c.text_end-r.ensures.1 _ _ c.line-q.ensures.0 c.if-out-r.false _ c.above.ensures
