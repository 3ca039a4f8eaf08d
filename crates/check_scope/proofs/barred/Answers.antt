-- By cases. Assumes nothing.
use mathlib.Core.Path.{ap, sym}
use mathlib.Core.Bool.{Bool}
use Rattle.check_scope.specs.Next.{bars}
use Rattle.check_scope.proofs.barred.Goals as goal

pub returns-then-b : goal.returns-then-b
returns-then-b c = sym (ap (λ (u : Bool). bars u c.args.t) c.if-b.true)

pub returns : goal.returns
returns c = sym (ap (λ (u : Bool). bars u c.args.t) c.if-b.false)
