-- Behind the goal's first word and before j nothing moves. Assumes nothing.
use mathlib.Core.Path.{refl}
use native.Mathlib.Omega.{arith}
use Rattle.mem_words.specs.Words.{length_words}
use Rattle.step_stable.proofs.Pieces.{rest_first, rest_next, rest_all, rest_not}
use Rattle.step_stable.proofs.places_rest.Goals as goal

pub overflow_add-j : goal.overflow_add-j
overflow_add-j c = omega (arith, c.requires.0, c.requires.1, length_words c.args.t.now)

pub loop-j-init : goal.loop-j-init
loop-j-init c = (omega arith, rest_first refl)

pub moved_at-requires : goal.moved_at-requires
moved_at-requires c = omega (arith, c.end_of-e.ensures.0, c.requires.1)

pub returns-then-moved_at : goal.returns-then-moved_at
returns-then-moved_at c = rest_not c.moved_at.ensures c.if-moved_at.true (omega (arith, c.loop-j.invariant.0)) (omega (arith, c.end_of-e.ensures.0))

pub overflow_add-j-in-loop-j : goal.overflow_add-j-in-loop-j
overflow_add-j-in-loop-j c = omega (arith, c.end_of-e.ensures.1, length_words c.args.t.now)

pub loop-j-smaller : goal.loop-j-smaller
loop-j-smaller c = omega arith

pub loop-j-preserved : goal.loop-j-preserved
loop-j-preserved c = (omega (arith, c.loop-j.invariant.0), rest_next c.loop-j.invariant.1 c.moved_at.ensures c.if-moved_at.false)

pub returns : goal.returns
returns c = rest_all c.loop-j.invariant.1 (omega (arith, c.end_of-e.ensures.0))
