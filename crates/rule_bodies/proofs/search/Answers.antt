-- From where it stands the search finds what it finds from the front. Assumes nothing.
use mathlib.Core.Path.{refl, ◌∙◌}
use native.Mathlib.Omega.{arith}
use Rattle.mem_words.specs.Words.{words}
use Rattle.rule_bodies.specs.Search.{further, found_here, not_here, not_found}
use Rattle.rule_bodies.proofs.search.Goals as goal

pub loop-j-init : goal.loop-j-init
loop-j-init c = (c.count-c.ensures.is, omega arith, refl)

pub is_head-requires : goal.is_head-requires
is_head-requires c = omega (arith, c.loop-j.invariant.0)

pub overflow_add-result : goal.overflow_add-result
overflow_add-result c = omega (arith, c.loop-j.invariant.0, c.count-c.ensures.small)

pub returns-then-is_head : goal.returns-then-is_head
returns-then-is_head c =
    let lp = c.loop-j in
    (found_here (words c.args.ps.now) lp.j c.args.p c.args.n c.is_head.result (omega (arith, lp.invariant.0)) c.is_head.ensures c.if-is_head.true ∙ lp.invariant.2, omega (arith, lp.invariant.0))

pub loop-j-smaller : goal.loop-j-smaller
loop-j-smaller c = omega (arith, c.loop-j.invariant.0, c.end_of-e.ensures.0, c.end_of-e.ensures.1, further (words c.args.ps.now) c.loop-j.j (omega (arith, c.loop-j.invariant.0)))

pub loop-j-preserved : goal.loop-j-preserved
loop-j-preserved c =
    let lp = c.loop-j in
    (lp.invariant.0, omega (arith, lp.invariant.0, c.end_of-e.ensures.1), not_here (words c.args.ps.now) lp.j c.args.p c.args.n _ c.is_head.result (omega (arith, lp.invariant.0)) c.is_head.ensures c.if-is_head.false c.end_of-e.ensures.0 ∙ lp.invariant.2)

pub returns : goal.returns
returns c =
    let lp = c.loop-j in
    (lp.invariant.0 ∙ not_found (words c.args.ps.now) lp.j c.args.p c.args.n (omega (arith, lp.invariant.0)) ∙ lp.invariant.2, omega (arith, lp.invariant.0))
