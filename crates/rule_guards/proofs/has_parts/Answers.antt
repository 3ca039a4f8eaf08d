-- Whether it is not empty. Assumes nothing.
use mathlib.Core.Path.{ap, sym}
use mathlib.Core.Bool.{not}
use native.Mathlib.Omega.{arith}
use Rattle.mem_words.specs.Words.{words}
use Rattle.rule_shapes.specs.Tests.{parts_is, parts_is_not}
use Rattle.rule_guards.proofs.has_parts.Goals as goal

pub overflow_add-g : goal.overflow_add-g
overflow_add-g c = omega (arith, c.count-c.ensures.small, c.count-c.ensures.is, c.requires)

pub returns-then-ends : goal.returns-then-ends
returns-then-ends c = parts_is (words c.args.ws.now) c.args.g _ _ _ c.is_kind.ensures c.if-is_kind.true c.ends.ensures (ap not (sym c.if-ends.true))

pub returns-then-is_kind : goal.returns-then-is_kind
returns-then-is_kind c = parts_is (words c.args.ws.now) c.args.g _ _ _ c.is_kind.ensures c.if-is_kind.true c.ends.ensures (ap not (sym c.if-ends.false))

pub returns : goal.returns
returns c = parts_is_not (words c.args.ws.now) c.args.g _ c.is_kind.ensures c.if-is_kind.false
