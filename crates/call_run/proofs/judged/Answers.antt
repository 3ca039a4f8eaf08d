-- The tests in their order: of the text, of the slices, of the store. Assumes nothing.
use native.Mathlib.Omega.{arith}
use mathlib.Core.Path.{◌∙◌}
use lib.ListN.{length}
use Rattle.std.proofs.lemmas.Result.{err_from_is_err_and}
use Rattle.call_slices.proofs.Slices.{goes_on}
use Rattle.call_run.proofs.Before.{before_text, before_steps, can_run, same_working}
use Rattle.call_run.proofs.judged.Goals as goal

pub returns-in_err-check : goal.returns-in_err-check
returns-in_err-check c =
    let p = err_from_is_err_and c.from_residual.result c.from_residual.ensures.1 in
    rw (p.1, p.2) (before_text c.args.steps.now c.args.store.now (length c.args.work.now) _ c.in_err-check.ensures)

pub returns-in_err-formed_or_refused : goal.returns-in_err-formed_or_refused
returns-in_err-formed_or_refused c =
    let p = err_from_is_err_and c.from_residual-in_err-formed_or_refused.result c.from_residual-in_err-formed_or_refused.ensures.1 in
    rw (p.1, p.2) (before_steps c.args.steps.now c.args.store.now (length c.args.work.now) _ c.in_ok-check.ensures _ c.in_err-formed_or_refused.ensures)

pub ready-requires : goal.ready-requires
ready-requires c = let g = goes_on c.args.store.now (length c.args.work.now) _ c.in_ok-formed_or_refused.ensures in record { long = omega (arith, c.formed_or_refused.auto.work, g.working) }

pub tried-requires : goal.tried-requires
tried-requires c = can_run c.args.steps.now c.args.store.now (length c.args.work.now) _ c.in_ok-check.ensures _ (goes_on c.args.store.now (length c.args.work.now) _ c.in_ok-formed_or_refused.ensures) c.ready.ensures.0

pub returns : goal.returns
returns c = same_working (length c.args.work.now) (c.ready.auto.w ∙ c.formed_or_refused.auto.work) c.tried.ensures
