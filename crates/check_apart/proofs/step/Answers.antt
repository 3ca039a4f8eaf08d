-- A word at a time. Assumes nothing.
use mathlib.Core.Path.{refl}
use native.Mathlib.Omega.{arith}
use Rattle.check_apart.specs.Next.{read_as, can_open, is_open, is_idle, is_end, is_stray}
use Rattle.check_apart.proofs.step.Goals as goal

pub returns-then-k-eq0 : goal.returns-then-k-eq0
returns-then-k-eq0 c = is_stray c.requires.0 (read_as _ c.in-End.is c.requires.1) c.if-k-eq0.true

pub overflow_sub-result : goal.overflow_sub-result
overflow_sub-result c = omega arith

pub variable-requires : goal.variable-requires
variable-requires c = (c.requires.0, read_as _ c.in-Free.is c.requires.1)

pub open_bracket-requires : goal.open_bracket-requires
open_bracket-requires c = can_open c.requires.0

pub open_bracket-requires-in-Inner : goal.open_bracket-requires-in-Inner
open_bracket-requires-in-Inner c = can_open c.requires.0

pub returns-else-k-eq0 : goal.returns-else-k-eq0
returns-else-k-eq0 c = is_end c.requires.0 (read_as _ c.in-End.is c.requires.1) c.if-k-eq0.false

pub returns-in-Free : goal.returns-in-Free
returns-in-Free c = c.variable.ensures

pub returns-in-Level : goal.returns-in-Level
returns-in-Level c = is_idle c.requires.0 (read_as _ c.in-Level.is c.requires.1) refl refl

pub returns-in-Num : goal.returns-in-Num
returns-in-Num c = is_idle c.requires.0 (read_as _ c.in-Num.is c.requires.1) refl refl

pub returns-in-Place : goal.returns-in-Place
returns-in-Place c = is_open c.requires.0 (read_as _ c.in-Place.is c.requires.1) c.open_bracket.ensures refl refl

pub returns-in-Inner : goal.returns-in-Inner
returns-in-Inner c = is_open c.requires.0 (read_as _ c.in-Inner.is c.requires.1) c.open_bracket-in-Inner.ensures refl refl

pub returns-in-Bad : goal.returns-in-Bad
returns-in-Bad c = is_idle c.requires.0 (read_as _ c.in-Bad.is c.requires.1) refl refl
