-- Whether the choice-box ends behind it. Assumes nothing.
use mathlib.Core.Path.{ap, sym}
use mathlib.Core.Bool.{not}
use native.Mathlib.Omega.{arith}
use Rattle.mem_words.specs.Words.{words}
use Rattle.rule_shapes.specs.Tests.{right_is}
use Rattle.rule_beside.proofs.has_right.Goals as goal

pub overflow_add-e : goal.overflow_add-e
overflow_add-e c = omega (arith, c.count-c.ensures.small, c.count-c.ensures.is, c.end_of-e.ensures.1)

pub returns-then-ends : goal.returns-then-ends
returns-then-ends c = right_is (words c.args.ws.now) c.args.i _ _ _ c.end_of-e.ensures.0 c.ends.ensures (ap not (sym c.if-ends.true))

pub returns : goal.returns
returns c = right_is (words c.args.ws.now) c.args.i _ _ _ c.end_of-e.ensures.0 c.ends.ensures (ap not (sym c.if-ends.false))
