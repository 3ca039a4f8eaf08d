-- By the operator. Assumes nothing.
use native.Mathlib.Omega.{arith}
use Rattle.mem_words.specs.Words.{words, length_words}
use Rattle.step_waits.proofs.Waiting.{operator_cond, operator_first, operator_later, operator_neither}
use Rattle.step_waits.proofs.operator.Goals as goal

pub has_right-requires : goal.has_right-requires
has_right-requires c = omega (arith, c.requires.1)

pub returns-then-is_kind : goal.returns-then-is_kind
returns-then-is_kind c = operator_cond (words c.args.t.now) c.args.c c.args.i c.requires.0 c.requires.2 c.is_kind.result c.is_kind.ensures c.if-is_kind.true c.has_right.result c.has_right.ensures

pub overflow_add-c : goal.overflow_add-c
overflow_add-c c = omega (arith, c.requires.3, c.requires.1, length_words c.args.t.now)

pub has_right-requires-then-c-i : goal.has_right-requires-then-c-i
has_right-requires-then-c-i c = omega (arith, c.requires.1)

pub returns-then-c-i : goal.returns-then-c-i
returns-then-c-i c = operator_first (words c.args.t.now) c.args.c c.args.i c.requires.0 c.requires.2 c.is_kind.result c.is_kind-2.result c.is_kind.ensures c.if-is_kind.false c.is_kind-2.ensures c.if-is_kind-2.true (omega arith) c.has_right-then-c-i.result c.has_right-then-c-i.ensures

pub returns-then-is_kind-2 : goal.returns-then-is_kind-2
returns-then-is_kind-2 c = operator_later (words c.args.t.now) c.args.c c.args.i c.requires.0 c.requires.2 c.is_kind.result c.is_kind-2.result c.is_kind.ensures c.if-is_kind.false c.is_kind-2.ensures c.if-is_kind-2.true (λ z. omega (arith, z))

pub returns : goal.returns
returns c = operator_neither (words c.args.t.now) c.args.c c.args.i c.requires.0 c.requires.2 c.is_kind.result c.is_kind-2.result c.is_kind.ensures c.if-is_kind.false c.is_kind-2.ensures c.if-is_kind-2.false
