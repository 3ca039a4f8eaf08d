-- A name, ` = ` and a term, one behind the other. Assumes nothing.
use native.Mathlib.Omega.{arith}
use Rattle.work_tables.specs.Tables.{laid_after}
use Rattle.answer_length.proofs.Lengthening.{bound_can, bound_of, can_measure_to, sized_at}
use Rattle.answer_length.proofs.binding.Goals as goal

pub name_length-n-requires : goal.name_length-n-requires
name_length-n-requires c = (c.requires.3.names, c.requires.5)

pub plus-a-requires : goal.plus-a-requires
plus-a-requires c = omega (arith, c.requires.2)

pub plus-b-requires : goal.plus-b-requires
plus-b-requires c = omega (arith, c.requires.2)

pub visit-c-requires : goal.visit-c-requires
visit-c-requires c = (c.requires.0, c.requires.1, c.requires.2, c.requires.3, c.requires.4)

pub measure-l-requires : goal.measure-l-requires
measure-l-requires c = (laid_after c.requires.0 c.visit-c.ensures.1, c.requires.2, can_measure_to c.args.used c.requires.1 c.requires.0 c.visit-c.ensures.1 (bound_can c.requires.3 c.requires.4 c.visit-c.ensures.0))

pub plus-e-requires : goal.plus-e-requires
plus-e-requires c = omega (arith, c.requires.2)

pub returns : goal.returns
returns c = (bound_of c.requires.3 c.args.v c.args.at c.name_length-n.ensures c.plus-a.ensures c.plus-b.ensures c.visit-c.ensures.0 (sized_at c.args.used c.requires.1 c.requires.0 c.visit-c.ensures.1 c.measure-l.ensures) c.plus-e.ensures, c.visit-c.ensures.1)
