-- The trail has a fixed number of entries. Assumes nothing.
use mathlib.Core.Logic.{inl}
use native.Mathlib.Omega.{arith}
use Rattle.work_tables.specs.Tables.{length_var, length_old}
use Rattle.work_cells.proofs.roomy.Goals as goal

pub returns-then-n-lt8191 : goal.returns-then-n-lt8191
returns-then-n-lt8191 c = (omega (arith, length_var c.requires.0), omega (arith, length_old c.requires.0))

pub returns : goal.returns
returns c = inl (omega (arith, length_var c.requires.0))
