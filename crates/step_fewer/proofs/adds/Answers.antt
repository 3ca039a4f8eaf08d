-- Each number in its turn. Assumes nothing.
use mathlib.Core.Path.{refl}
use native.Mathlib.Omega.{arith}
use Rattle.step_fewer.specs.Adding.{adds_parts, adds_at, adds_none}
use Rattle.step_fewer.proofs.adds.Goals as goal

pub returns-then-r-eq2 : goal.returns-then-r-eq2
unfolding adds_parts
returns-then-r-eq2 c = adds_at c.args.r 2 refl (omega (arith, c.if-r-eq2.true))

pub returns-then-r-eq5 : goal.returns-then-r-eq5
unfolding adds_parts
returns-then-r-eq5 c = adds_at c.args.r 5 refl (omega (arith, c.if-r-eq5.true))

pub returns-then-r-eq12 : goal.returns-then-r-eq12
unfolding adds_parts
returns-then-r-eq12 c = adds_at c.args.r 12 refl (omega (arith, c.if-r-eq12.true))

pub returns-then-r-eq13 : goal.returns-then-r-eq13
unfolding adds_parts
returns-then-r-eq13 c = adds_at c.args.r 13 refl (omega (arith, c.if-r-eq13.true))

pub returns : goal.returns
returns c = adds_none c.args.r (λ e. omega (arith, c.if-r-eq2.false, e)) (λ e. omega (arith, c.if-r-eq5.false, e)) (λ e. omega (arith, c.if-r-eq12.false, e)) (λ e. omega (arith, c.if-r-eq13.false, e))
