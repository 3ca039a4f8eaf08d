-- The class, and what is known of what it is bound to. Assumes nothing.
use native.Mathlib.Omega.{arith}
use Rattle.work_tables.specs.Tables.{length_cell, length_pos}
use Rattle.answer_stack.specs.Slots.{same_answered}
use Rattle.answer_size.proofs.Sizing.{app_inside}
use Rattle.answer_visit.proofs.Reading.{did_free, did_known, did_open, begin_room, begin_number}
use Rattle.answer_visit.proofs.begin.Goals as goal

pub find-r-requires : goal.find-r-requires
find-r-requires c = (c.requires.0, record { up = c.requires.1.shown.up; inside = omega (arith, c.requires.1.state.low, length_cell c.requires.0) })

pub cell_get-c-requires : goal.cell_get-c-requires
cell_get-c-requires c = record { laid = c.requires.0; inside = omega (arith, c.find-r.ensures.inside, length_cell c.requires.0) }

pub meet-n-requires : goal.meet-n-requires
meet-n-requires c = begin_number c.requires.0 c.find-r.ensures c.requires.1

pub returns-then-c-ne2 : goal.returns-then-c-ne2
returns-then-c-ne2 c = (did_free c.find-r.ensures c.cell_get-c.ensures.is c.if-c-ne2.true c.meet-n.ensures, c.meet-n.ensures.rest)

pub known_get-e-requires : goal.known_get-e-requires
known_get-e-requires c = record { laid = c.requires.0; inside = omega (arith, app_inside c.requires.1.shown c.find-r.ensures c.cell_get-c.ensures.is c.if-c-ne2.false, length_pos c.requires.0) }

pub returns-then-e-ne0 : goal.returns-then-e-ne0
returns-then-e-ne0 c = (did_known c.find-r.ensures c.cell_get-c.ensures.is c.if-c-ne2.false c.known_get-e.ensures.is c.if-e-ne0.true, same_answered)

pub push-requires : goal.push-requires
push-requires c = record { laid = c.requires.0; inside = omega (arith, begin_room c.find-r.ensures c.cell_get-c.ensures.is c.if-c-ne2.false c.requires.1, length_pos c.requires.0); place = omega (arith, app_inside c.requires.1.shown c.find-r.ensures c.cell_get-c.ensures.is c.if-c-ne2.false, length_pos c.requires.0); begun = omega arith }

pub overflow_add-result : goal.overflow_add-result
overflow_add-result c = omega (arith, begin_room c.find-r.ensures c.cell_get-c.ensures.is c.if-c-ne2.false c.requires.1, length_pos c.requires.0)

pub returns : goal.returns
returns c = (did_open c.requires.0 (omega (arith, begin_room c.find-r.ensures c.cell_get-c.ensures.is c.if-c-ne2.false c.requires.1, length_pos c.requires.0)) c.find-r.ensures c.cell_get-c.ensures.is c.if-c-ne2.false c.push.ensures, c.push.ensures.rest)
