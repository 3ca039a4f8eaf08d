-- Behind the head of the call the store holds a state. Assumes nothing.
use native.Mathlib.Omega.{arith}
use lib.ListN.{length}
use Rattle.std.proofs.lemmas.Result.{err_from_is_err_and}
use Rattle.call_slices.proofs.Slices.{goes_on}
use Rattle.call_answer.proofs.Outcomes.{to_refused, to_answer}
use Rattle.call_answer.proofs.asked.Goals as goal

pub returns-in_err-formed_or_refused : goal.returns-in_err-formed_or_refused
returns-in_err-formed_or_refused c =
    let p = err_from_is_err_and c.from_residual.result c.from_residual.ensures.1 in
    rw (p.1, p.2) (to_refused c.args.store.now (length c.args.work.now) c.args.number _ _ c.in_err-formed_or_refused.ensures)

pub of_state-requires : goal.of_state-requires
of_state-requires c = (record { long = omega (arith, c.formed_or_refused.auto.work, (goes_on c.args.store.now (length c.args.work.now) _ c.in_ok-formed_or_refused.ensures).working) }, omega (arith, (goes_on c.args.store.now (length c.args.work.now) _ c.in_ok-formed_or_refused.ensures).store), (goes_on c.args.store.now (length c.args.work.now) _ c.in_ok-formed_or_refused.ensures).state)

pub returns : goal.returns
returns c = to_answer c.args.store.now (length c.args.work.now) c.args.number _ _ _ (goes_on c.args.store.now (length c.args.work.now) _ c.in_ok-formed_or_refused.ensures).long (goes_on c.args.store.now (length c.args.work.now) _ c.in_ok-formed_or_refused.ensures).state c.of_state.ensures
