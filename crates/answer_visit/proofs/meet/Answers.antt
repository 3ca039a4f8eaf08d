-- The entry tells whether the class was met. Assumes nothing.
use mathlib.Core.Path.{sym, ◌∙◌}
use native.Mathlib.Omega.{arith}
use Rattle.answer_walk.proofs.Numbering.{number_less}
use Rattle.answer_visit.proofs.Reading.{met_new, met_old}
use Rattle.answer_visit.proofs.meet.Goals as goal

pub number_get-e-requires : goal.number_get-e-requires
number_get-e-requires c = record { laid = c.requires.laid; inside = omega (arith, c.requires.low) }

pub overflow_add-count : goal.overflow_add-count
overflow_add-count c = omega (arith, number_less c.args.r.0 c.requires.numbers (sym c.number_get-e.ensures.is ∙ c.if-e-eq0.true) c.requires.low)

pub number_put-requires : goal.number_put-requires
number_put-requires c = record { laid = c.requires.laid; inside = omega (arith, c.requires.low); small = omega (arith, number_less c.args.r.0 c.requires.numbers (sym c.number_get-e.ensures.is ∙ c.if-e-eq0.true) c.requires.low) }

pub overflow_add-result : goal.overflow_add-result
overflow_add-result c = omega (arith, number_less c.args.r.0 c.requires.numbers (sym c.number_get-e.ensures.is ∙ c.if-e-eq0.true) c.requires.low)

pub returns-then-e-eq0 : goal.returns-then-e-eq0
returns-then-e-eq0 c = met_new c.requires.laid c.requires.low (sym c.number_get-e.ensures.is ∙ c.if-e-eq0.true) c.number_put.ensures

pub returns : goal.returns
returns c = met_old c.args.count c.number_get-e.ensures.is c.if-e-eq0.false
