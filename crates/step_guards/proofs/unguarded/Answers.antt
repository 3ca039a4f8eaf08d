-- There is no operator before j. Assumes nothing.
use native.Mathlib.Omega.{arith}
use Rattle.mem_words.specs.Words.{words, length_words}
use Rattle.step_guards.proofs.Resting.{operators_first, operators_next, operators_some, operators_none}
use Rattle.step_guards.proofs.unguarded.Goals as goal

pub loop-j-init : goal.loop-j-init
loop-j-init c = (omega arith, operators_first (words c.args.t.now) c.args.g)

pub returns-then-is_kind : goal.returns-then-is_kind
returns-then-is_kind c = operators_some (words c.args.t.now) c.args.g

pub returns-then-is_kind-2 : goal.returns-then-is_kind-2
returns-then-is_kind-2 c = operators_some (words c.args.t.now) c.args.g

pub loop-j-preserved : goal.loop-j-preserved
loop-j-preserved c = (omega (arith, c.loop-j.invariant.0), operators_next (words c.args.t.now) c.args.g c.loop-j.j c.is_kind.result c.is_kind-in-loop-j.result c.is_kind.ensures c.if-is_kind.false c.is_kind-in-loop-j.ensures c.if-is_kind-2.false c.loop-j.invariant.1)

pub returns : goal.returns
returns c = operators_none (words c.args.t.now) c.args.g c.loop-j.j (omega (arith, c.end_of-e.ensures.0)) c.loop-j.invariant.1
