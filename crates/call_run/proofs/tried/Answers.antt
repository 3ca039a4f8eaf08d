-- Line by line: those that are left, on the store as it is, lead to what the whole text does on the first store. Assumes nothing.
use native.Mathlib.Omega.{arith}
use mathlib.Core.Path.{refl, ◌∙◌}
use Rattle.step_store.proofs.Bounded.{at_most_any}
use Rattle.step_store.proofs.Pointing.{pointed_first}
use Rattle.refusals.proofs.Numbers.{over_0}
use Rattle.call_run.proofs.Text.{no_refusal}
use Rattle.call_run.proofs.Answers.{ran_none, ran_end, ran_small, ran_refused, ran_more}
use Rattle.call_run.proofs.tried.Goals as goal

pub loop-at-init : goal.loop-at-init
loop-at-init c = (refl, refl, c.requires.idle, ran_none _ _ _ c.requires, at_most_any _, omega arith, pointed_first _)

pub overflow_mul-result : goal.overflow_mul-result
overflow_mul-result c = omega (arith, c.loop-at.invariant.3.few, c.loop-at.invariant.3.inside, c.loop-at.invariant.3.most)

pub returns : goal.returns
returns c = ran_end _ _ _ _ _ _ c.loop-at.invariant.3 (omega arith)

pub returns-in_default : goal.returns-in_default
returns-in_default c = absurd (no_refusal _ _ _ c.loop-at.invariant.3.behind (omega arith) _ (rw c.in_default.is at c.read_line.ensures))

pub step-done-requires : goal.step-done-requires
step-done-requires c = (omega (arith, c.loop-at.invariant.0, c.requires.long), c.loop-at.invariant.2, record { state = c.loop-at.invariant.3.state; holds = c.loop-at.invariant.3.holds }, c.loop-at.invariant.4, c.loop-at.invariant.5, c.loop-at.invariant.6)

pub overflow_mul-result-2 : goal.overflow_mul-result-2
overflow_mul-result-2 c = omega (arith, c.loop-at.invariant.3.few, c.loop-at.invariant.3.inside, c.loop-at.invariant.3.most)

pub overflow_add-result : goal.overflow_add-result
overflow_add-result c =
    let s = ran_small _ _ _ _ _ _ c.loop-at.invariant.3 _ _ _ (rw c.in-Err.is at c.step-done.ensures.0) in
    omega (arith, s, c.number.ensures, c.loop-at.invariant.3.few, c.loop-at.invariant.3.inside, c.loop-at.invariant.3.most)

pub returns-in-Err : goal.returns-in-Err
returns-in-Err c =
    rw c.number.ensures
    (ran_refused _ _ _ _ _ _ c.loop-at.invariant.3 (omega arith) _ _ (rw c.in-Ok.is at c.read_line.ensures) _ _ (λ z. absurd (omega (arith, over_0 c.in-Err.refusal, z))) (rw c.in-Err.is at c.step-done.ensures.0))

pub overflow_add-n : goal.overflow_add-n
overflow_add-n c = omega (arith, c.loop-at.invariant.3.few, c.loop-at.invariant.3.inside, c.loop-at.invariant.3.most)

pub loop-at-smaller : goal.loop-at-smaller
loop-at-smaller c = let l = (rw c.in-Ok.is at c.read_line.ensures) in omega (arith, l.forward.ahead, l.forward.inside)

pub loop-at-preserved : goal.loop-at-preserved
loop-at-preserved c =
    let d = rw c.in-Ok-done.is at c.step-done.ensures in
    (c.step-done.auto.b ∙ c.loop-at.invariant.0, c.step-done.auto.w ∙ c.loop-at.invariant.1, d.1, ran_more _ _ _ _ _ _ c.loop-at.invariant.3 (omega arith) _ _ (rw c.in-Ok.is at c.read_line.ensures) _ _ refl d.0, d.2.0.most, d.2.0.limit, d.2.1)
