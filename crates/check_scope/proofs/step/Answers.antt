-- A word at a time. Assumes nothing.
use mathlib.Core.Path.{refl}
use Rattle.check_scope.specs.Next.{read_as, is_idle, next_clear}
use Rattle.check_scope.proofs.step.Goals as goal

pub close-requires : goal.close-requires
close-requires c = (c.requires.0, read_as _ c.in-End.is c.requires.1)

pub variable-requires : goal.variable-requires
variable-requires c = (c.requires.0, read_as _ c.in-Free.is c.requires.1)

pub open_place-requires : goal.open_place-requires
open_place-requires c = (c.requires.0, read_as _ c.in-Place.is c.requires.1)

pub open_other-requires : goal.open_other-requires
open_other-requires c = c.requires.0

pub returns-in-End : goal.returns-in-End
returns-in-End c = c.close.ensures

pub returns-in-Free : goal.returns-in-Free
returns-in-Free c = c.variable.ensures

pub returns-in-Level : goal.returns-in-Level
returns-in-Level c = is_idle c.requires.0 (read_as _ c.in-Level.is c.requires.1) refl refl

pub returns-in-Num : goal.returns-in-Num
returns-in-Num c = is_idle c.requires.0 (read_as _ c.in-Num.is c.requires.1) refl refl

pub returns-in-Place : goal.returns-in-Place
returns-in-Place c = c.open_place.ensures

pub returns-in-Inner : goal.returns-in-Inner
returns-in-Inner c = next_clear c.open_other.result c.requires.0 (read_as _ c.in-Inner.is c.requires.1) c.open_other.ensures refl refl refl

pub returns-in-Bad : goal.returns-in-Bad
returns-in-Bad c = is_idle c.requires.0 (read_as _ c.in-Bad.is c.requires.1) refl refl
