-- One table after the other. Assumes nothing.
use native.Mathlib.Omega.{arith}
use Rattle.work_tables.specs.Tables.{laid_after}
use Rattle.answer_known.specs.Known.{zero_known, zero_numbered, zero_counted}
use Rattle.answer_known.proofs.forget.Goals as goal

pub clear-requires : goal.clear-requires
clear-requires c = c.requires

pub zero-requires : goal.zero-requires
zero-requires c = record { le = omega arith; fits = omega (arith, (laid_after c.requires c.clear.ensures.1).long) }

pub returns : goal.returns
returns c = (zero_numbered (laid_after c.requires c.clear.ensures.1) c.zero.ensures c.clear.ensures.0, zero_known c.zero.ensures, zero_counted c.clear.ensures.1 c.zero.ensures)
