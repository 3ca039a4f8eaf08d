-- The guarded goal one word before. Assumes nothing.
use mathlib.Core.Path.{refl}
use Prim.Native.Nat.{◌-◌}
use native.Mathlib.Omega.{arith}
use Rattle.mem_words.specs.Words.{words}
use Rattle.step_waits.proofs.Waiting.{solved_behind, two_open, can_look, choice_around, beside_outside, beside_none, beside_asked}
use Rattle.step_waits.proofs.beside.Goals as goal

pub overflow_add-g : goal.overflow_add-g
overflow_add-g c = omega (arith, c.count-n.ensures.small, c.count-n.ensures.is, c.requires.0.order, c.requires.0.low)

pub returns-then-j-g : goal.returns-then-j-g
returns-then-j-g c = beside_outside (words c.args.t.now) c.args.g c.args.j (omega arith)

pub overflow_sub-h : goal.overflow_sub-h
overflow_sub-h c = omega (arith, two_open (words c.args.t.now) c.args.g c.args.j _ c.args.h c.requires.0 (omega arith) c.is_kind.result c.is_kind.ensures c.if-is_kind.true)

pub get-c-requires : goal.get-c-requires
get-c-requires c = can_look (words c.args.t.now) c.args.g c.args.j _ c.args.h c.requires.0 (omega arith) c.is_kind.result c.is_kind.ensures c.if-is_kind.true

pub operator-requires : goal.operator-requires
operator-requires c = let q = choice_around (words c.args.t.now) c.args.g c.args.j _ c.args.h c.requires.0 (omega arith) c.is_kind.result c.is_kind.ensures c.if-is_kind.true c.get-c.result c.get-c.ensures.is in (q.0, omega (arith, c.requires.0.low), solved_behind (words c.args.t.now) c.args.g c.args.j (omega arith) c.requires.1, q.1)

pub returns-then-is_kind : goal.returns-then-is_kind
returns-then-is_kind c = beside_asked (words c.args.t.now) c.args.g c.args.j (c.args.j - 1) refl (omega arith) c.is_kind.result c.is_kind.ensures c.if-is_kind.true c.operator.result c.operator.ensures

pub returns : goal.returns
returns c = beside_none (words c.args.t.now) c.args.g c.args.j (c.args.j - 1) refl (omega arith) c.is_kind.result c.is_kind.ensures c.if-is_kind.false
