-- `read_steps::with_digit` meets its contract: by the test on the number. Assumes nothing.
use borrow.Author.Tests.{lt-ltb, le-ltb}
use Rattle.read_steps.proofs.with_digit.Goals as goal

pub returns-then-n-lt4294967296 : goal.returns-then-n-lt4294967296
returns-then-n-lt4294967296 c = simp (lt-ltb _ _ c.if-n-lt4294967296.true, c.wide.ensures)

pub returns-else-n-lt4294967296 : goal.returns-else-n-lt4294967296
returns-else-n-lt4294967296 c = simp (le-ltb _ _ c.if-n-lt4294967296.false)
