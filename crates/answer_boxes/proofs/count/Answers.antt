-- Each answer on the walk is one more. Assumes nothing.
use mathlib.Core.Path.{refl, ◌∙◌}
use native.Mathlib.Omega.{arith}
use Rattle.mem_words.specs.Words.{words}
use Rattle.answer_boxes.proofs.Walking.{ends_later, walk_other, walk_goal, walk_on}
use Rattle.answer_boxes.proofs.Counting.{count_first, count_answer, count_last}
use Rattle.answer_boxes.proofs.count.Goals as goal

pub ready-requires : goal.ready-requires
ready-requires c = c.requires.0

pub loop-j-init : goal.loop-j-init
loop-j-init c = (c.ready.ensures.0, refl, omega arith, omega arith, count_first)

pub answer_at-requires : goal.answer_at-requires
answer_at-requires c = (c.loop-j.invariant.0, walk_goal c.loop-j.invariant.4 _ (omega (arith, c.count-n.ensures.is)) c.is_kind.ensures c.if-is_kind.true c.requires.1)

pub overflow_add-c : goal.overflow_add-c
overflow_add-c c = omega (arith, c.loop-j.invariant.2, c.loop-j.invariant.3, c.count-n.ensures.small)

pub overflow_add-j : goal.overflow_add-j
overflow_add-j c = omega (arith, c.end_of-e.ensures.1, c.count-n.ensures.is, c.count-n.ensures.small)

pub loop-j-smaller-then-answer_at : goal.loop-j-smaller-then-answer_at
loop-j-smaller-then-answer_at c = omega (arith, ends_later (words c.args.t.now) c.loop-j.j c.end_of-e.result (omega (arith, c.count-n.ensures.is)) c.end_of-e.ensures.0, c.end_of-e.ensures.1, c.count-n.ensures.is)

pub loop-j-preserved-then-answer_at : goal.loop-j-preserved-then-answer_at
loop-j-preserved-then-answer_at c = (c.answer_at.ensures.1, c.answer_at.auto.w ∙ c.loop-j.invariant.1, omega (arith, c.loop-j.invariant.2, ends_later (words c.args.t.now) c.loop-j.j c.end_of-e.result (omega (arith, c.count-n.ensures.is)) c.end_of-e.ensures.0), omega (arith, c.end_of-e.ensures.1, c.count-n.ensures.is), count_answer c.loop-j.j c.loop-j.c c.loop-j.invariant.4 _ (omega (arith, c.count-n.ensures.is)) c.is_kind.ensures c.if-is_kind.true c.answer_at.result c.answer_at.ensures.0 c.if-answer_at.true c.end_of-e.result c.end_of-e.ensures.0)

pub overflow_add-j-else-answer_at : goal.overflow_add-j-else-answer_at
overflow_add-j-else-answer_at c = omega (arith, c.end_of-e.ensures.1, c.count-n.ensures.is, c.count-n.ensures.small)

pub loop-j-smaller-else-answer_at : goal.loop-j-smaller-else-answer_at
loop-j-smaller-else-answer_at c = omega (arith, ends_later (words c.args.t.now) c.loop-j.j c.end_of-e.result (omega (arith, c.count-n.ensures.is)) c.end_of-e.ensures.0, c.end_of-e.ensures.1, c.count-n.ensures.is)

pub loop-j-preserved-else-answer_at : goal.loop-j-preserved-else-answer_at
loop-j-preserved-else-answer_at c = (c.answer_at.ensures.1, c.answer_at.auto.w ∙ c.loop-j.invariant.1, omega (arith, c.loop-j.invariant.2, ends_later (words c.args.t.now) c.loop-j.j c.end_of-e.result (omega (arith, c.count-n.ensures.is)) c.end_of-e.ensures.0), omega (arith, c.end_of-e.ensures.1, c.count-n.ensures.is), walk_on c.loop-j.invariant.4 _ (omega (arith, c.count-n.ensures.is)) c.is_kind.ensures c.if-is_kind.true c.answer_at.result c.answer_at.ensures.0 c.if-answer_at.false c.end_of-e.result c.end_of-e.ensures.0)

pub overflow_add-j-else-is_kind : goal.overflow_add-j-else-is_kind
overflow_add-j-else-is_kind c = omega (arith, c.count-n.ensures.small)

pub loop-j-smaller : goal.loop-j-smaller
loop-j-smaller c = omega arith

pub loop-j-preserved : goal.loop-j-preserved
loop-j-preserved c = (c.loop-j.invariant.0, c.loop-j.invariant.1, omega (arith, c.loop-j.invariant.2), omega arith, walk_other c.loop-j.invariant.4 _ c.is_kind.ensures c.if-is_kind.false)

pub returns : goal.returns
returns c = (count_last c.loop-j.j c.loop-j.c c.loop-j.invariant.4 (omega (arith, c.count-n.ensures.is)), c.loop-j.invariant.0.walk.laid)
