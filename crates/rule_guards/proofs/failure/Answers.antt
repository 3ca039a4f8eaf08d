-- Whether it is empty. Assumes nothing.
use native.Mathlib.Omega.{arith}
use Rattle.mem_words.specs.Words.{words}
use Rattle.rule_shapes.specs.Tests.{failure_is, failure_is_not}
use Rattle.rule_guards.proofs.failure.Goals as goal

pub overflow_add-g : goal.overflow_add-g
overflow_add-g c = omega (arith, c.count-c.ensures.small, c.count-c.ensures.is, c.requires)

pub returns-then-is_kind : goal.returns-then-is_kind
returns-then-is_kind c = failure_is (words c.args.ws.now) c.args.g _ _ c.is_kind.ensures c.if-is_kind.true c.ends.ensures

pub returns : goal.returns
returns c = failure_is_not (words c.args.ws.now) c.args.g _ c.is_kind.ensures c.if-is_kind.false
