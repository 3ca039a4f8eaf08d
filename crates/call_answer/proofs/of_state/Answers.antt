-- The answer found, told and put. Assumes nothing.
use native.Mathlib.Omega.{arith}
use Rattle.mem_parts.specs.Parts.{cut}
use Rattle.call_state.proofs.Answers.{config_fits, some_meant}
use Rattle.call_answer.proofs.Lines.{found_none, found_there, found_ready}
use Rattle.call_answer.proofs.of_state.Goals as goal

pub config_count-c-requires : goal.config_count-c-requires
config_count-c-requires c = omega (arith, c.requires.1)

pub overflow_mul-e : goal.overflow_mul-e
overflow_mul-e c = omega (arith, c.config_count-c.ensures.1)

pub overflow_add-e : goal.overflow_add-e
overflow_add-e c = omega (arith, c.config_count-c.ensures.1)

pub slice_bounds-find-count : goal.slice_bounds-find-count
slice_bounds-find-count c = omega arith

pub slice_bounds-find-start : goal.slice_bounds-find-start
slice_bounds-find-start c = omega arith

pub slice_bounds-find-end : goal.slice_bounds-find-end
slice_bounds-find-end c = omega (arith, config_fits c.args.store.now c.config_count-c.result c.config_count-c.ensures.0 c.requires.2, c.requires.1)

pub find-j-requires : goal.find-j-requires
unfolding cut
find-j-requires c = (c.requires.0, some_meant c.args.store.now c.config_count-c.result c.config_count-c.ensures.0 c.requires.2)

pub returns-then-j-c : goal.returns-then-j-c
unfolding cut
returns-then-j-c c = found_none c.args.store.now c.args.number c.config_count-c.result c.find-j.result c.config_count-c.ensures.0 (omega (arith, config_fits c.args.store.now c.config_count-c.result c.config_count-c.ensures.0 c.requires.2, c.requires.1)) c.find-j.ensures.0 (omega arith) _

pub slice_bounds-tell-count : goal.slice_bounds-tell-count
slice_bounds-tell-count c = omega arith

pub slice_bounds-tell-start : goal.slice_bounds-tell-start
slice_bounds-tell-start c = omega arith

pub slice_bounds-tell-end : goal.slice_bounds-tell-end
slice_bounds-tell-end c = omega (arith, config_fits c.args.store.now c.config_count-c.result c.config_count-c.ensures.0 c.requires.2, c.requires.1)

pub tell-u-requires : goal.tell-u-requires
unfolding cut
tell-u-requires c = (c.find-j.ensures.1, found_there c.args.store.now c.args.number c.config_count-c.result c.find-j.result c.config_count-c.ensures.0 (omega (arith, config_fits c.args.store.now c.config_count-c.result c.config_count-c.ensures.0 c.requires.2, c.requires.1)) c.find-j.ensures.0 c.if-j-c.false c.requires.2)

pub put-requires : goal.put-requires
unfolding cut
put-requires c = (c.tell-u.ensures.1, c.tell-u.ensures.2, c.requires.1, found_ready c.args.store.now c.args.number c.config_count-c.result c.find-j.result c.config_count-c.ensures.0 (omega (arith, config_fits c.args.store.now c.config_count-c.result c.config_count-c.ensures.0 c.requires.2, c.requires.1)) c.find-j.ensures.0 c.if-j-c.false c.requires.2 _ _ c.tell-u.ensures.0)

pub returns : goal.returns
returns c = c.put.ensures
