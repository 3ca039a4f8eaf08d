-- Not none, and it ends behind the first. Assumes nothing.
use native.Mathlib.Omega.{arith}
use Rattle.mem_words.specs.Words.{words}
use Rattle.rule_shapes.specs.Tests.{none_is, some_is}
use Rattle.rule_beside.proofs.has_one.Goals as goal

pub overflow_add-i : goal.overflow_add-i
overflow_add-i c = omega (arith, c.count-c.ensures.small, c.count-c.ensures.is, c.requires)

pub returns-then-ends : goal.returns-then-ends
returns-then-ends c = (none_is (words c.args.ws.now) c.args.i _ c.ends.ensures c.if-ends.true).0

pub overflow_add-i-2 : goal.overflow_add-i-2
overflow_add-i-2 c = omega (arith, c.count-c.ensures.small, c.count-c.ensures.is, c.requires)

pub overflow_add-e : goal.overflow_add-e
overflow_add-e c = omega (arith, c.count-c.ensures.small, c.count-c.ensures.is, c.end_of-e.ensures.1)

pub returns : goal.returns
returns c = (some_is (words c.args.ws.now) c.args.i _ _ _ c.ends.ensures c.if-ends.false c.end_of-e.ensures.0 c.ends-2.ensures).0
