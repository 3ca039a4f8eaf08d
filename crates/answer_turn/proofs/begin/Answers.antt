-- The class, and what it is bound to. Assumes nothing.
use mathlib.Core.Path.{refl}
use native.Mathlib.Omega.{arith}
use Rattle.work_tables.specs.Tables.{length_cell, length_pos}
use Rattle.answer_turn.proofs.Reading.{did_unknown, can_number, at_bound, app_in}
use Rattle.answer_turn.proofs.begin.Goals as goal

pub find-r-requires : goal.find-r-requires
find-r-requires c = (c.requires.0, record { up = c.requires.2.up; inside = omega (arith, c.requires.3.run.next.2, length_cell c.requires.0) })

pub cell_get-c-requires : goal.cell_get-c-requires
cell_get-c-requires c = record { laid = c.requires.0; inside = omega (arith, c.find-r.ensures.inside, length_cell c.requires.0) }

pub unknown-u-requires : goal.unknown-u-requires
unknown-u-requires c = can_number c.requires.2 c.requires.0 refl c.requires.3 c.find-r.ensures

pub returns-then-c-ne2 : goal.returns-then-c-ne2
returns-then-c-ne2 c = (did_unknown c.requires.2 refl refl refl c.find-r.ensures c.cell_get-c.ensures.is c.if-c-ne2.true c.unknown-u.ensures, c.unknown-u.ensures.rest)

pub pos_get-p-requires : goal.pos_get-p-requires
pos_get-p-requires c = record { laid = c.requires.0; inside = omega (arith, app_in c.requires.2 c.find-r.ensures c.cell_get-c.ensures.is c.if-c-ne2.false, length_pos c.requires.0) }

pub label-requires : goal.label-requires
label-requires c = (c.requires.0, c.requires.1, c.requires.2, c.requires.3, at_bound c.requires.2 c.find-r.ensures c.cell_get-c.ensures.is c.if-c-ne2.false c.pos_get-p.ensures)

pub returns : goal.returns
returns c = c.label.ensures
