-- The head of the call, then the step. Assumes nothing.
use native.Mathlib.Omega.{arith}
use lib.ListN.{length}
use Rattle.std.proofs.lemmas.Result.{err_from_is_err_and}
use Rattle.step_meant.specs.Deciding.{step_of}
use Rattle.call_slices.proofs.Slices.{goes_on}
use Rattle.step_store.proofs.Bounded.{at_most_any}
use Rattle.step_store.proofs.Pointing.{pointed_first}
use Rattle.call_step.proofs.Answers.{to_refused, done}
use Rattle.call_step.proofs.judged.Goals as goal

pub returns-in_err-formed_or_refused : goal.returns-in_err-formed_or_refused
returns-in_err-formed_or_refused c =
    let p = err_from_is_err_and c.from_residual.result c.from_residual.ensures.1 in
    rw (p.1, p.2) (to_refused c.args.store.now (length c.args.work.now) (step_of c.args.rule c.args.place.0 c.args.argument) _ c.in_err-formed_or_refused.ensures)

pub ready-requires : goal.ready-requires
ready-requires c = let g = goes_on c.args.store.now (length c.args.work.now) _ c.in_ok-formed_or_refused.ensures in record { long = omega (arith, c.formed_or_refused.auto.work, g.working) }

pub step-requires : goal.step-requires
step-requires c =
    let g = goes_on c.args.store.now (length c.args.work.now) _ c.in_ok-formed_or_refused.ensures in
    (g.store, c.ready.ensures.0, g.state, at_most_any c.args.store.now, omega arith, pointed_first c.args.store.now)

pub returns-in_err-step : goal.returns-in_err-step
returns-in_err-step c =
    let p = err_from_is_err_and c.from_residual-in_err-step.result c.from_residual-in_err-step.ensures.1 in
    rw (p.1, p.2) (done c.args.store.now (length c.args.work.now) (step_of c.args.rule c.args.place.0 c.args.argument) _ _ (goes_on c.args.store.now (length c.args.work.now) _ c.in_ok-formed_or_refused.ensures) c.in_err-step.ensures.0)

pub returns : goal.returns
returns c = done c.args.store.now (length c.args.work.now) (step_of c.args.rule c.args.place.0 c.args.argument) _ _ (goes_on c.args.store.now (length c.args.work.now) _ c.in_ok-formed_or_refused.ensures) c.in_ok-step.ensures.0
