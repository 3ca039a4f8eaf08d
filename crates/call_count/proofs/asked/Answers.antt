-- Behind the head of the call the store holds a state. Assumes nothing.
use native.Mathlib.Omega.{arith}
use lib.ListN.{length}
use Rattle.mem_parts.specs.Parts.{cut}
use Rattle.std.proofs.lemmas.Result.{err_from_is_err_and}
use Rattle.call_slices.proofs.Slices.{goes_on}
use Rattle.call_state.proofs.Answers.{config_fits, some_meant}
use Rattle.call_count.proofs.Answers.{to_refused, answered, count_small}
use Rattle.call_count.proofs.asked.Goals as goal

pub returns-in_err-formed_or_refused : goal.returns-in_err-formed_or_refused
returns-in_err-formed_or_refused c =
    let p = err_from_is_err_and c.from_residual.result c.from_residual.ensures.1 in
    rw (p.1, p.2) (to_refused c.args.store.now (length c.args.work.now) _ c.in_err-formed_or_refused.ensures)

pub config_count-n-requires : goal.config_count-n-requires
config_count-n-requires c = omega (arith, (goes_on c.args.store.now (length c.args.work.now) _ c.in_ok-formed_or_refused.ensures).store)

pub overflow_mul-e : goal.overflow_mul-e
overflow_mul-e c = omega (arith, c.config_count-n.ensures.1)

pub overflow_add-e : goal.overflow_add-e
overflow_add-e c = omega (arith, c.config_count-n.ensures.1)

pub slice_bounds-count-count : goal.slice_bounds-count-count
slice_bounds-count-count c = omega (arith, (goes_on c.args.store.now (length c.args.work.now) _ c.in_ok-formed_or_refused.ensures).store)

pub slice_bounds-count-start : goal.slice_bounds-count-start
slice_bounds-count-start c = omega (arith, (goes_on c.args.store.now (length c.args.work.now) _ c.in_ok-formed_or_refused.ensures).store)

pub slice_bounds-count-end : goal.slice_bounds-count-end
slice_bounds-count-end c = omega (arith, (goes_on c.args.store.now (length c.args.work.now) _ c.in_ok-formed_or_refused.ensures).store, config_fits c.args.store.now c.config_count-n.result c.config_count-n.ensures.0 (goes_on c.args.store.now (length c.args.work.now) _ c.in_ok-formed_or_refused.ensures).state)

pub count-c-requires : goal.count-c-requires
unfolding cut
count-c-requires c = (record { long = omega (arith, c.formed_or_refused.auto.work, (goes_on c.args.store.now (length c.args.work.now) _ c.in_ok-formed_or_refused.ensures).working) }, some_meant c.args.store.now c.config_count-n.result c.config_count-n.ensures.0 (goes_on c.args.store.now (length c.args.work.now) _ c.in_ok-formed_or_refused.ensures).state)

pub overflow_mul-result : goal.overflow_mul-result
unfolding cut
overflow_mul-result c = omega (arith, count_small (some_meant c.args.store.now c.config_count-n.result c.config_count-n.ensures.0 (goes_on c.args.store.now (length c.args.work.now) _ c.in_ok-formed_or_refused.ensures).state) c.count-c.ensures.0)

pub returns : goal.returns
unfolding cut
returns c = answered c.args.store.now (length c.args.work.now) c.config_count-n.result c.count-c.result (goes_on c.args.store.now (length c.args.work.now) _ c.in_ok-formed_or_refused.ensures).long c.config_count-n.ensures.0 (goes_on c.args.store.now (length c.args.work.now) _ c.in_ok-formed_or_refused.ensures).state c.count-c.ensures.0
