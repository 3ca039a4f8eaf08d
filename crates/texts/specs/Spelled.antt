-- Concrete syntax whose names are spelled as document 01 says: what the tokens of a text give.
use Rattle.std.specs.Prelude.{List, [], ◌∷◌, ◌||◌, T}
use Rattle.std.proofs.Math.Option.{Option, some, none}
use Rattle.constraint.specs.Constraint.{Con, ctrue, cfail, ceq, capp}
use Rattle.akl.specs.Base.{Name}
use Rattle.akl.specs.Token.{Token, name, digits, variable, sign}
use Rattle.akl.specs.Grammar.{Statement, single, joined, Simple, constraint, program, bracket, Bracket, plain, hiding, choosing, Clause, written, Others, end, and_also, Definition}
use Rattle.akl.specs.WellFormed.{spelled_name, spelled_digits, spelled_variable, spelled_predicate}

abbrev pub SpelledToken : Token → Type 0
SpelledToken (name w) = T (spelled_name w)
SpelledToken (digits w) = T (spelled_digits w)
SpelledToken (variable w) = T (spelled_variable w)
SpelledToken (sign m) = Unit {0}

abbrev pub SpelledTokens : List Token → Type 0
SpelledTokens [] = Unit {0}
SpelledTokens (t ∷ ts) = SpelledToken t × SpelledTokens ts

abbrev pub Variables : List Name → Type 0
Variables [] = Unit {0}
Variables (x ∷ xs) = T (spelled_variable x) × Variables xs

abbrev pub SpelledCon : Con Name → Type 0
SpelledCon ctrue = Unit {0}
SpelledCon cfail = Unit {0}
SpelledCon (ceq x y) = T (spelled_variable x) × T (spelled_variable y)
SpelledCon (capp x f ys) = T (spelled_variable x) × T (spelled_name f || spelled_digits f) × Variables ys

abbrev mutual
  pub SpelledStatement : Statement → Type 0
  SpelledStatement (single s) = SpelledSimple s
  SpelledStatement (joined s r) = SpelledSimple s × SpelledStatement r

  pub SpelledSimple : Simple → Type 0
  SpelledSimple (constraint c) = SpelledCon c
  SpelledSimple (program p xs) = T (spelled_predicate p) × Variables xs
  SpelledSimple (bracket b) = SpelledBracket b

  pub SpelledBracket : Bracket → Type 0
  SpelledBracket (plain s) = SpelledStatement s
  SpelledBracket (hiding x xs s) = Variables (x ∷ xs) × SpelledStatement s
  SpelledBracket (choosing c cs) = SpelledClause c × SpelledOthers cs

  pub SpelledClause : Clause → Type 0
  SpelledClause (written xs g op b) = Variables xs × SpelledStatement g × SpelledStatement b

  pub SpelledOthers : Others → Type 0
  SpelledOthers end = Unit {0}
  SpelledOthers (and_also c cs) = SpelledClause c × SpelledOthers cs

abbrev pub SpelledDefinition : Definition → Type 0
SpelledDefinition d = T (spelled_predicate d.head) × Variables d.parameters × SpelledStatement d.statement

abbrev pub SpelledDefinitions : List Definition → Type 0
SpelledDefinitions [] = Unit {0}
SpelledDefinitions (d ∷ ds) = SpelledDefinition d × SpelledDefinitions ds
