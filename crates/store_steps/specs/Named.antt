-- Every name in a program is a K: those of its definitions and those in their bodies. Assumes nothing.
use Rattle.std.specs.Prelude.{[], ◌∷◌}
use Rattle.akl.specs.Base.{Name}
use Rattle.akl.specs.Syntax.{Program}
use Rattle.store_form.specs.Named.{NamedStmt}

abbrev pub NamedProgram : (Name → Type 0) → Program → Type 0
NamedProgram K [] = Unit {0}
NamedProgram K (d ∷ ds) = K d.name × NamedStmt K d.body × NamedProgram K ds
