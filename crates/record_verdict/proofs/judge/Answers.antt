-- The tests in their order: the texts, the steps text, the slices, the start, the steps. Assumes nothing.
use native.Mathlib.Omega.{arith}
use mathlib.Core.Path.{ap, ◌∙◌}
use Prim.Native.Nat.{ℕ}
use lib.ListN.{length, replicate}
use Rattle.record_verdict.proofs.Verdicts.{texts_refused, text_first, too_short, start_refused, steps_tried}
use Rattle.record_verdict.proofs.judge.Goals as goal

pub returns-then-x-lt8 : goal.returns-then-x-lt8
returns-then-x-lt8 c = record { verdict = texts_refused c.args.rules.now c.args.query.now c.args.steps.now c.args.store.now _ (length c.args.work.now) _ c.akl_start-x.ensures.start (λ z. omega (arith, z)) (omega arith); working = c.akl_start-x.ensures.working }

pub returns-in-Err : goal.returns-in-Err
returns-in-Err c = record { verdict = rw c.number.ensures (text_first c.args.rules.now c.args.query.now c.args.steps.now c.args.store.now _ (length c.args.work.now) _ c.akl_start-x.ensures.start (λ l h. omega arith) _ (rw c.in-Err.is at c.check.ensures)); working = c.akl_start-x.ensures.working }

pub returns-then-x-eq8 : goal.returns-then-x-eq8
returns-then-x-eq8 c = record { verdict = too_short c.args.rules.now c.args.query.now c.args.steps.now c.args.store.now _ (length c.args.work.now) _ c.akl_start-x.ensures.start (omega arith) _ (rw c.in_default.is at c.check.ensures); working = c.akl_start-x.ensures.working }

pub returns-then-x-ne0 : goal.returns-then-x-ne0
returns-then-x-ne0 c = record { verdict = start_refused c.args.rules.now c.args.query.now c.args.steps.now c.args.store.now _ (length c.args.work.now) _ c.akl_start-x.ensures.start (omega arith) _ (rw c.in_default.is at c.check.ensures); working = c.akl_start-x.ensures.working }

pub returns : goal.returns
returns c = record { verdict = steps_tried c.args.rules.now c.args.query.now c.args.steps.now c.args.store.now _ (length c.args.work.now) _ c.akl_start-x.ensures.start (omega arith) _ (rw c.in_default.is at c.check.ensures) _ _ _ c.akl_start-x.auto.work c.akl_run-y.ensures.run; working = c.akl_run-y.ensures.working ∙ ap (λ (n : ℕ). replicate n 0) c.akl_start-x.auto.work }
