-- Each number in its turn. Assumes nothing.
use mathlib.Core.Path.{refl}
use native.Mathlib.Omega.{arith}
use Rattle.step_fewer.specs.Adding.{itself, itself_at, itself_none}
use Rattle.step_fewer.proofs.at_itself.Goals as goal

pub returns-then-rule-eq2 : goal.returns-then-rule-eq2
unfolding itself
returns-then-rule-eq2 c = itself_at c.args.rule 2 refl (omega (arith, c.if-rule-eq2.true))

pub returns-then-rule-eq5 : goal.returns-then-rule-eq5
unfolding itself
returns-then-rule-eq5 c = itself_at c.args.rule 5 refl (omega (arith, c.if-rule-eq5.true))

pub returns : goal.returns
returns c = itself_none c.args.rule (λ e. omega (arith, c.if-rule-eq2.false, e)) (λ e. omega (arith, c.if-rule-eq5.false, e))
