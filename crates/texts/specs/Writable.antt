-- Trees that a text can have: no program atom and no definition is named `true` or `fail`.
use Rattle.std.specs.Prelude.{List, [], ◌∷◌, ◌||◌, T}
use Rattle.constraint.specs.Constraint.{Con, ctrue, cfail, ceq, capp}
use Rattle.akl.specs.Base.{Name, bytes, same}
use Rattle.akl.specs.Grammar.{Statement, single, joined, Simple, constraint, program, bracket, Bracket, plain, hiding, choosing, Clause, written, Others, end, and_also, Definition}

abbrev pub NotReserved : Name → Type 0
NotReserved p = T (same p (bytes "true") || same p (bytes "fail")) → ⊥

abbrev mutual
  pub Writable : Statement → Type 0
  Writable (single s) = WritableSimple s
  Writable (joined s r) = WritableSimple s × Writable r

  pub WritableSimple : Simple → Type 0
  WritableSimple (constraint c) = Unit {0}
  WritableSimple (program p xs) = NotReserved p
  WritableSimple (bracket b) = WritableBracket b

  pub WritableBracket : Bracket → Type 0
  WritableBracket (plain s) = Writable s
  WritableBracket (hiding x xs s) = Writable s
  WritableBracket (choosing c cs) = WritableClause c × WritableOthers cs

  pub WritableClause : Clause → Type 0
  WritableClause (written xs g op b) = Writable g × Writable b

  pub WritableOthers : Others → Type 0
  WritableOthers end = Unit {0}
  WritableOthers (and_also c cs) = WritableClause c × WritableOthers cs

abbrev pub WritableDefinition : Definition → Type 0
WritableDefinition d = NotReserved d.head × Writable d.statement

abbrev pub WritableProgram : List Definition → Type 0
WritableProgram [] = Unit {0}
WritableProgram (d ∷ ds) = WritableDefinition d × WritableProgram ds
