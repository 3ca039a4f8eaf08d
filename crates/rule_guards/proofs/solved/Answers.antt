-- Its members are asked for. Assumes nothing.
use native.Mathlib.Omega.{arith}
use Rattle.mem_words.specs.Words.{words}
use Rattle.rule_shapes.specs.Tests.{solved_is, solved_is_not}
use Rattle.rule_guards.proofs.solved.Goals as goal

pub overflow_add-g : goal.overflow_add-g
overflow_add-g c = omega (arith, c.count-c.ensures.small, c.count-c.ensures.is, c.requires)

pub overflow_add-u : goal.overflow_add-u
overflow_add-u c = omega (arith, c.count-c.ensures.small, c.count-c.ensures.is, c.end_of-u.ensures.1)

pub overflow_add-s : goal.overflow_add-s
overflow_add-s c = omega (arith, c.count-c.ensures.small, c.count-c.ensures.is, c.end_of-s.ensures.1)

pub returns-then-is_kind : goal.returns-then-is_kind
returns-then-is_kind c = solved_is (words c.args.ws.now) c.args.g _ _ _ _ c.is_kind.ensures c.if-is_kind.true c.end_of-u.ensures.0 c.end_of-s.ensures.0 c.ends.ensures

pub returns : goal.returns
returns c = solved_is_not (words c.args.ws.now) c.args.g _ c.is_kind.ensures c.if-is_kind.false
