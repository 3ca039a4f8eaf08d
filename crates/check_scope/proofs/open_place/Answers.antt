-- A kind at a time. Assumes nothing.
use mathlib.Core.Path.{refl, ap}
use mathlib.Core.List.{[]}
use Rattle.mem_words.specs.declared.Word.TheVariants.{Place}
use Rattle.check_words.specs.Scope.{plain, guarding}
use Rattle.check_scope.specs.Next.{read_as, next_clear, next_closed}
use Rattle.check_scope.proofs.open_place.Goals as goal

pub open_other-requires : goal.open_other-requires
open_other-requires c = c.requires.0

pub open_box-requires : goal.open_box-requires
open_box-requires c = (c.requires.0, read_as _ (ap Place c.in-And.is) c.requires.1)

pub open_other-requires-in-Guarded : goal.open_other-requires-in-Guarded
open_other-requires-in-Guarded c = c.requires.0

pub open_other-requires-in-Member : goal.open_other-requires-in-Member
open_other-requires-in-Member c = c.requires.0

pub open_other-requires-in-Wait : goal.open_other-requires-in-Wait
open_other-requires-in-Wait c = c.requires.0

pub open_other-requires-in-Cond : goal.open_other-requires-in-Cond
open_other-requires-in-Cond c = c.requires.0

pub open_other-requires-in-Commit : goal.open_other-requires-in-Commit
open_other-requires-in-Commit c = c.requires.0

pub returns-in-Or : goal.returns-in-Or
returns-in-Or c = next_clear c.open_other.result c.requires.0 (read_as _ (ap Place c.in-Or.is) c.requires.1) c.open_other.ensures refl refl refl

pub returns-in-And : goal.returns-in-And
returns-in-And c = c.open_box.ensures

pub returns-in-Guarded : goal.returns-in-Guarded
returns-in-Guarded c = next_closed (guarding []) c.open_other-in-Guarded.result c.requires.0 (read_as _ (ap Place c.in-Guarded.is) c.requires.1) c.open_other-in-Guarded.ensures refl refl refl

pub returns-in-Member : goal.returns-in-Member
returns-in-Member c = next_closed plain c.open_other-in-Member.result c.requires.0 (read_as _ (ap Place c.in-Member.is) c.requires.1) c.open_other-in-Member.ensures refl refl refl

pub returns-in-Wait : goal.returns-in-Wait
returns-in-Wait c = next_closed plain c.open_other-in-Wait.result c.requires.0 (read_as _ (ap Place c.in-Wait.is) c.requires.1) c.open_other-in-Wait.ensures refl refl refl

pub returns-in-Cond : goal.returns-in-Cond
returns-in-Cond c = next_closed plain c.open_other-in-Cond.result c.requires.0 (read_as _ (ap Place c.in-Cond.is) c.requires.1) c.open_other-in-Cond.ensures refl refl refl

pub returns-in-Commit : goal.returns-in-Commit
returns-in-Commit c = next_closed plain c.open_other-in-Commit.result c.requires.0 (read_as _ (ap Place c.in-Commit.is) c.requires.1) c.open_other-in-Commit.ensures refl refl refl
