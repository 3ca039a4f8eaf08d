-- The members from j on decide. Assumes nothing.
use mathlib.Core.Path.{refl, ◌∙◌}
use native.Mathlib.Omega.{arith}
use Rattle.mem_words.specs.Words.{words}
use Rattle.answer_boxes.proofs.Walking.{ends_later}
use Rattle.answer_boxes.proofs.Members.{state_failed, members_first, members_past, members_final, members_goal, members_open, members_on}
use Rattle.answer_boxes.proofs.state.Goals as goal

pub returns-then-ends : goal.returns-then-ends
returns-then-ends c = (state_failed _ c.ends.ensures c.if-ends.true, c.requires.0)

pub ready-requires : goal.ready-requires
ready-requires c = c.requires.0

pub loop-j-init : goal.loop-j-init
loop-j-init c = (c.ready.ensures.0, refl, members_first _ c.ends.ensures c.if-ends.false)

pub returns-then-ends-2 : goal.returns-then-ends-2
returns-then-ends-2 c = (members_final c.loop-j.invariant.2 _ c.ends-in-loop-j.ensures c.if-ends-2.true, c.loop-j.invariant.0.walk.laid)

pub answer_at-requires : goal.answer_at-requires
answer_at-requires c = (c.loop-j.invariant.0, members_goal c.loop-j.invariant.2 _ c.ends-in-loop-j.ensures c.if-ends-2.false c.requires.1)

pub overflow_add-j : goal.overflow_add-j
overflow_add-j c = omega (arith, c.end_of-e.ensures.1, c.count-n.ensures.is, c.count-n.ensures.small)

pub loop-j-smaller : goal.loop-j-smaller
loop-j-smaller c = omega (arith, ends_later (words c.args.t.now) c.loop-j.j c.end_of-e.result (omega (arith, c.count-n.ensures.is)) c.end_of-e.ensures.0, c.end_of-e.ensures.1, c.count-n.ensures.is)

pub loop-j-preserved : goal.loop-j-preserved
loop-j-preserved c = (c.answer_at.ensures.1, c.answer_at.auto.w ∙ c.loop-j.invariant.1, members_on c.loop-j.invariant.2 _ c.ends-in-loop-j.ensures c.if-ends-2.false c.answer_at.result c.answer_at.ensures.0 c.if-answer_at.true c.end_of-e.result c.end_of-e.ensures.0)

pub returns-else-answer_at : goal.returns-else-answer_at
returns-else-answer_at c = (members_open c.loop-j.invariant.2 _ c.ends-in-loop-j.ensures c.if-ends-2.false c.answer_at.result c.answer_at.ensures.0 c.if-answer_at.false, c.answer_at.ensures.1.walk.laid)

pub returns : goal.returns
returns c = (members_past c.loop-j.invariant.2 (omega (arith, c.count-n.ensures.is)), c.loop-j.invariant.0.walk.laid)
