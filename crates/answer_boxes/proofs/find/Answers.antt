-- The k-th of those that are left. Assumes nothing.
use mathlib.Core.Path.{refl, ◌∙◌}
use native.Mathlib.Omega.{arith}
use Rattle.mem_words.specs.Words.{words}
use Rattle.answer_boxes.proofs.Walking.{ends_later, walk_other, walk_goal, walk_on}
use Rattle.answer_boxes.proofs.Finding.{find_zero, find_first, find_here, find_answer, find_last}
use Rattle.answer_boxes.proofs.find.Goals as goal

pub returns-then-n-eq0 : goal.returns-then-n-eq0
returns-then-n-eq0 c = (find_zero (words c.args.t.now) c.args.n c.count-m.result c.if-n-eq0.true c.count-m.ensures.is, c.requires.0)

pub ready-requires : goal.ready-requires
ready-requires c = c.requires.0

pub loop-j-init : goal.loop-j-init
loop-j-init c = (c.ready.ensures.0, refl, omega (arith, c.if-n-eq0.false), omega arith, find_first (words c.args.t.now) c.args.n)

pub answer_at-requires : goal.answer_at-requires
answer_at-requires c = (c.loop-j.invariant.0, walk_goal c.loop-j.invariant.4 _ (omega (arith, c.count-m.ensures.is)) c.is_kind.ensures c.if-is_kind.true c.requires.1)

pub returns-then-k-eq1 : goal.returns-then-k-eq1
returns-then-k-eq1 c = (find_here (words c.args.t.now) c.args.n c.loop-j.j c.loop-j.k c.loop-j.invariant.4 _ (omega (arith, c.count-m.ensures.is)) c.is_kind.ensures c.if-is_kind.true c.answer_at.result c.answer_at.ensures.0 c.if-answer_at.true c.if-k-eq1.true, c.answer_at.ensures.1.walk.laid)

pub overflow_sub-k : goal.overflow_sub-k
overflow_sub-k c = omega (arith, c.loop-j.invariant.2)

pub overflow_add-j : goal.overflow_add-j
overflow_add-j c = omega (arith, c.end_of-e.ensures.1, c.count-m.ensures.is, c.count-m.ensures.small)

pub loop-j-smaller-then-answer_at : goal.loop-j-smaller-then-answer_at
loop-j-smaller-then-answer_at c = omega (arith, ends_later (words c.args.t.now) c.loop-j.j c.end_of-e.result (omega (arith, c.count-m.ensures.is)) c.end_of-e.ensures.0, c.end_of-e.ensures.1, c.count-m.ensures.is)

pub loop-j-preserved-then-answer_at : goal.loop-j-preserved-then-answer_at
loop-j-preserved-then-answer_at c = (c.answer_at.ensures.1, c.answer_at.auto.w ∙ c.loop-j.invariant.1, omega (arith, c.loop-j.invariant.2, c.if-k-eq1.false), omega (arith, c.end_of-e.ensures.1, c.count-m.ensures.is), find_answer (words c.args.t.now) c.args.n c.loop-j.j c.loop-j.k c.loop-j.invariant.4 _ (omega (arith, c.count-m.ensures.is)) c.is_kind.ensures c.if-is_kind.true c.answer_at.result c.answer_at.ensures.0 c.if-answer_at.true (omega (arith, c.loop-j.invariant.2, c.if-k-eq1.false)) c.end_of-e.result c.end_of-e.ensures.0)

pub overflow_add-j-else-answer_at : goal.overflow_add-j-else-answer_at
overflow_add-j-else-answer_at c = omega (arith, c.end_of-e.ensures.1, c.count-m.ensures.is, c.count-m.ensures.small)

pub loop-j-smaller-else-answer_at : goal.loop-j-smaller-else-answer_at
loop-j-smaller-else-answer_at c = omega (arith, ends_later (words c.args.t.now) c.loop-j.j c.end_of-e.result (omega (arith, c.count-m.ensures.is)) c.end_of-e.ensures.0, c.end_of-e.ensures.1, c.count-m.ensures.is)

pub loop-j-preserved-else-answer_at : goal.loop-j-preserved-else-answer_at
loop-j-preserved-else-answer_at c = (c.answer_at.ensures.1, c.answer_at.auto.w ∙ c.loop-j.invariant.1, c.loop-j.invariant.2, omega (arith, c.end_of-e.ensures.1, c.count-m.ensures.is), walk_on c.loop-j.invariant.4 _ (omega (arith, c.count-m.ensures.is)) c.is_kind.ensures c.if-is_kind.true c.answer_at.result c.answer_at.ensures.0 c.if-answer_at.false c.end_of-e.result c.end_of-e.ensures.0)

pub overflow_add-j-else-is_kind : goal.overflow_add-j-else-is_kind
overflow_add-j-else-is_kind c = omega (arith, c.count-m.ensures.small)

pub loop-j-smaller : goal.loop-j-smaller
loop-j-smaller c = omega arith

pub loop-j-preserved : goal.loop-j-preserved
loop-j-preserved c = (c.loop-j.invariant.0, c.loop-j.invariant.1, c.loop-j.invariant.2, omega arith, walk_other c.loop-j.invariant.4 _ c.is_kind.ensures c.if-is_kind.false)

pub returns : goal.returns
returns c = (find_last (words c.args.t.now) c.args.n c.loop-j.j c.loop-j.k c.loop-j.invariant.4 (omega (arith, c.count-m.ensures.is)) c.count-m.result c.count-m.ensures.is, c.loop-j.invariant.0.walk.laid)
