-- A word at a time. Assumes nothing.
use mathlib.Core.Path.{ap, sym}
use Rattle.check_kinds.specs.Seen.{seen}
use Rattle.check_kinds.proofs.variable.Goals as goal

pub returns-in-Free : goal.returns-in-Free
returns-in-Free c = sym (ap seen c.in-Free.is)
