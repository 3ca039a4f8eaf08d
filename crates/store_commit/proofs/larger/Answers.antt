-- Compared. Assumes nothing.
use native.Mathlib.Omega.{arith}
use Rattle.store_commit.proofs.larger.Goals as goal

pub returns-then-n-old : goal.returns-then-n-old
returns-then-n-old c = (omega (arith, c.if-n-old.true), omega arith, omega (arith, c.requires.1))

pub returns-else-n-old : goal.returns-else-n-old
returns-else-n-old c = (omega arith, omega (arith, c.if-n-old.false), omega (arith, c.requires.0))
