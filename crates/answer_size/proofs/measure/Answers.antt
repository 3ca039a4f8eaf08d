-- The class's number, or what is known of its application. Assumes nothing.
use mathlib.Core.Path.{refl}
use native.Mathlib.Omega.{arith}
use Rattle.work_tables.specs.Tables.{length_cell, length_pos}
use Rattle.answer_size.proofs.Sizing.{app_inside, class_low, entry_some, known_some, sized_free, sized_bound}
use Rattle.answer_size.proofs.measure.Goals as goal

pub find-r-requires : goal.find-r-requires
find-r-requires c = (c.requires.0, record { up = c.requires.2.shown.up; inside = omega (arith, c.requires.2.low, length_cell c.requires.0) })

pub cell_get-c-requires : goal.cell_get-c-requires
cell_get-c-requires c = record { laid = c.requires.0; inside = omega (arith, c.find-r.ensures.inside, length_cell c.requires.0) }

pub number_get-e-requires : goal.number_get-e-requires
number_get-e-requires c = record { laid = c.requires.0; inside = omega (arith, class_low c.requires.2.shown c.find-r.ensures c.requires.2.low) }

pub overflow_sub-e : goal.overflow_sub-e
overflow_sub-e c = omega (arith, entry_some c.find-r.ensures c.cell_get-c.ensures.is c.if-c-ne2.true c.number_get-e.ensures.is c.requires.2)

pub plus-requires : goal.plus-requires
plus-requires c = omega (arith, c.requires.1)

pub returns-then-c-ne2 : goal.returns-then-c-ne2
returns-then-c-ne2 c = sized_free c.find-r.ensures c.cell_get-c.ensures.is c.if-c-ne2.true c.number_get-e.ensures.is c.width-d.ensures c.plus.ensures

pub known_get-e-requires : goal.known_get-e-requires
known_get-e-requires c = record { laid = c.requires.0; inside = omega (arith, app_inside c.requires.2.shown c.find-r.ensures c.cell_get-c.ensures.is c.if-c-ne2.false, length_pos c.requires.0) }

pub overflow_sub-result : goal.overflow_sub-result
overflow_sub-result c = omega (arith, known_some c.find-r.ensures c.cell_get-c.ensures.is c.if-c-ne2.false c.known_get-e.ensures.is c.requires.2)

pub returns : goal.returns
returns c = sized_bound c.find-r.ensures c.cell_get-c.ensures.is c.if-c-ne2.false c.known_get-e.ensures.is refl
