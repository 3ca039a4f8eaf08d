-- The refusals in their order; what is left behind them goes on. Assumes nothing.
use native.Mathlib.Omega.{arith}
use mathlib.Core.Path.{sym, ◌∙◌}
use Rattle.mem_words.specs.Words.{words}
use Rattle.step_decide.proofs.Outcomes.{no_row, nowhere, bad_argument, placed, other_kind, can_take, no_condition, goes}
use Rattle.step_decide.proofs.decide.Goals as goal

pub returns-then-n-eq10 : goal.returns-then-n-eq10
returns-then-n-eq10 c = ((omega arith, no_row (words c.args.t.now) (words c.args.d.now) c.args.r c.args.p.0 c.args.a (sym c.kind_taken-n.ensures ∙ c.if-n-eq10.true)), c.requires.0)

pub position_from-i-requires : goal.position_from-i-requires
position_from-i-requires c = c.requires.2

pub returns-then-i-count : goal.returns-then-i-count
returns-then-i-count c = ((omega arith, nowhere (words c.args.t.now) (words c.args.d.now) c.args.r c.args.p.0 c.args.a (λ z. c.if-n-eq10.false (c.kind_taken-n.ensures ∙ z)) (omega (arith, c.position_from-i.ensures.0, c.count.ensures.is))), c.requires.0)

pub returns-then-not-argument_fits : goal.returns-then-not-argument_fits
returns-then-not-argument_fits c = ((omega arith, bad_argument (words c.args.t.now) (words c.args.d.now) c.args.r c.args.p.0 c.args.a (λ z. c.if-n-eq10.false (c.kind_taken-n.ensures ∙ z)) (sym c.argument_fits.ensures ∙ c.if-not-argument_fits.true)), c.requires.0)

pub kind-requires : goal.kind-requires
kind-requires c = c.position_from-i.ensures.1

pub returns-then-kind-n : goal.returns-then-kind-n
returns-then-kind-n c =
    let q = placed (words c.args.t.now) (words c.args.d.now) c.args.r c.args.p.0 c.args.a c.position_from-i.result c.kind_taken-n.result c.count.result c.argument_fits.result c.kind_taken-n.ensures c.if-n-eq10.false c.position_from-i.ensures.0 c.position_from-i.ensures.1 c.count.ensures.is c.if-i-count.false c.argument_fits.ensures (c.if-not-argument_fits.false) in
    ((omega arith, other_kind (words c.args.t.now) (words c.args.d.now) c.args.r c.args.p.0 c.args.a c.position_from-i.result c.kind.result c.kind_taken-n.result q c.kind.ensures c.kind_taken-n.ensures c.if-kind-n.true), c.requires.0)

pub has_condition-requires : goal.has_condition-requires
has_condition-requires c =
    let q = placed (words c.args.t.now) (words c.args.d.now) c.args.r c.args.p.0 c.args.a c.position_from-i.result c.kind_taken-n.result c.count.result c.argument_fits.result c.kind_taken-n.ensures c.if-n-eq10.false c.position_from-i.ensures.0 c.position_from-i.ensures.1 c.count.ensures.is c.if-i-count.false c.argument_fits.ensures (c.if-not-argument_fits.false) in
    (c.requires.0, can_take (words c.args.t.now) (words c.args.d.now) c.args.r c.args.p.0 c.args.a c.position_from-i.result c.kind.result c.kind_taken-n.result q c.kind.ensures c.kind_taken-n.ensures c.if-kind-n.false c.requires.1)

pub returns-then-not-has_condition : goal.returns-then-not-has_condition
returns-then-not-has_condition c =
    let q = placed (words c.args.t.now) (words c.args.d.now) c.args.r c.args.p.0 c.args.a c.position_from-i.result c.kind_taken-n.result c.count.result c.argument_fits.result c.kind_taken-n.ensures c.if-n-eq10.false c.position_from-i.ensures.0 c.position_from-i.ensures.1 c.count.ensures.is c.if-i-count.false c.argument_fits.ensures (c.if-not-argument_fits.false) in
    ((omega arith, no_condition (words c.args.t.now) (words c.args.d.now) c.args.r c.args.p.0 c.args.a c.position_from-i.result c.kind.result c.kind_taken-n.result q c.kind.ensures c.kind_taken-n.ensures c.if-kind-n.false c.has_condition.result c.has_condition.ensures.0 (c.if-not-has_condition.true)), c.has_condition.ensures.1)

pub returns : goal.returns
returns c =
    let q = placed (words c.args.t.now) (words c.args.d.now) c.args.r c.args.p.0 c.args.a c.position_from-i.result c.kind_taken-n.result c.count.result c.argument_fits.result c.kind_taken-n.ensures c.if-n-eq10.false c.position_from-i.ensures.0 c.position_from-i.ensures.1 c.count.ensures.is c.if-i-count.false c.argument_fits.ensures (c.if-not-argument_fits.false) in
    ((goes (words c.args.t.now) (words c.args.d.now) c.args.r c.args.p.0 c.args.a c.position_from-i.result c.kind.result c.kind_taken-n.result q c.kind.ensures c.kind_taken-n.ensures c.if-kind-n.false c.has_condition.result c.has_condition.ensures.0 (c.if-not-has_condition.false), c.position_from-i.ensures.0, omega (arith, c.position_from-i.ensures.1, c.count.ensures.is, c.if-i-count.false)), c.has_condition.ensures.1)
