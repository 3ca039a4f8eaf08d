-- By the class of the byte. Assumes nothing.
use mathlib.Core.Path.{ap}
use mathlib.Core.Bool.{true}
use Rattle.akl.specs.Token as akl
use Rattle.check_namemarks.specs.Marks.{formed}
use Rattle.check_namemarks.proofs.first.Goals as goal

pub returns-in-Small : goal.returns-in-Small
returns-in-Small c = ap (λ (k : akl.Class). formed k true true) (rw c.in-Small.is at c.class_of-c.ensures)

pub returns-in-Capital : goal.returns-in-Capital
returns-in-Capital c = ap (λ (k : akl.Class). formed k true true) (rw c.in-Capital.is at c.class_of-c.ensures)

pub returns-in-Digit : goal.returns-in-Digit
returns-in-Digit c = ap (λ (k : akl.Class). formed k true true) (rw c.in-Digit.is at c.class_of-c.ensures)

pub returns-in-Underscore : goal.returns-in-Underscore
returns-in-Underscore c = ap (λ (k : akl.Class). formed k true true) (rw c.in-Underscore.is at c.class_of-c.ensures)

pub returns-in-Blank : goal.returns-in-Blank
returns-in-Blank c = ap (λ (k : akl.Class). formed k true true) (rw c.in-Blank.is at c.class_of-c.ensures)

pub returns-in-Mark : goal.returns-in-Mark
returns-in-Mark c = ap (λ (k : akl.Class). formed k true true) (rw c.in-Mark.is at c.class_of-c.ensures)

pub returns-in-Other : goal.returns-in-Other
returns-in-Other c = ap (λ (k : akl.Class). formed k true true) (rw c.in-Other.is at c.class_of-c.ensures)
