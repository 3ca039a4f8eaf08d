-- The choice-box two words before. Assumes nothing.
use mathlib.Core.Path.{refl}
use Prim.Native.Nat.{◌-◌}
use native.Mathlib.Omega.{arith}
use Rattle.mem_words.specs.Words.{words}
use Rattle.step_waits.proofs.Waiting.{sole_outside, sole_cond, sole_commit, sole_neither}
use Rattle.step_waits.proofs.sole.Goals as goal

pub overflow_add-g : goal.overflow_add-g
overflow_add-g c = omega (arith, c.count-n.ensures.small, c.count-n.ensures.is, c.requires.0, c.requires.1)

pub returns-then-j-g : goal.returns-then-j-g
returns-then-j-g c = sole_outside (words c.args.t.now) c.args.g c.args.j (omega arith)

pub has_one-requires : goal.has_one-requires
has_one-requires c = omega (arith, c.requires.1)

pub returns-then-is_kind : goal.returns-then-is_kind
returns-then-is_kind c = sole_cond (words c.args.t.now) c.args.g c.args.j (c.args.j - 2) refl (omega arith) c.requires.2 c.is_kind.result c.is_kind.ensures c.if-is_kind.true c.has_one.result c.has_one.ensures

pub has_one-requires-then-is_kind-2 : goal.has_one-requires-then-is_kind-2
has_one-requires-then-is_kind-2 c = omega (arith, c.requires.1)

pub returns-then-is_kind-2 : goal.returns-then-is_kind-2
returns-then-is_kind-2 c = sole_commit (words c.args.t.now) c.args.g c.args.j (c.args.j - 2) refl (omega arith) c.requires.2 c.is_kind-2.result c.is_kind-2.ensures c.if-is_kind-2.true c.has_one-then-is_kind-2.result c.has_one-then-is_kind-2.ensures

pub returns : goal.returns
returns c = sole_neither (words c.args.t.now) c.args.g c.args.j (c.args.j - 2) refl (omega arith) c.requires.2 c.is_kind.result c.is_kind-2.result c.is_kind.ensures c.if-is_kind.false c.is_kind-2.ensures c.if-is_kind-2.false
