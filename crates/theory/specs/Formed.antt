-- Well-formedness, part by part (akl: WellFormed has it as one test): scopes, interference, the query's locals and the limits as
-- propositions; what is said of spellings and statements stays a test.
use Rattle.std.specs.Prelude.{List, [], ◌∷◌, ◌++◌, true, ℕ, suc, ◌≤◌, T}
use Rattle.constraint.specs.Constraint.{In}
use Rattle.akl.specs.Base.{Name, size, range}
use Rattle.akl.specs.Limits.{last_number}
use Rattle.akl.specs.Syntax.{Program}
use Rattle.akl.specs.Reader.{Query}
use Rattle.akl.specs.Configuration.{Kind, Node, or, and, stmt, choice_box, guard, Nodes, nil, cons, Config}
use Rattle.akl.specs.Parts.{parts}
use Rattle.akl.specs.Stability.{locals_all}
use Rattle.akl.specs.WellFormed.{program_passes, names_pass, is_or, statement_passes, statements_pass, numbers}
use Rattle.theory.specs.Scope.{Sub, Below, Ok}

-- no variable of the query
abbrev pub High : ℕ → List ℕ → Type 0
High q l = (x : ℕ) → In x l → q ≤ x

-- "query variables are local to exactly the and-boxes of the top or-box and of or-boxes nested in it"
abbrev mutual
  pub QueryLocal : {k : Kind} → Node k → ℕ → Type 0
  QueryLocal (or ns) q = QueryLocalAll ns q
  QueryLocal (and vs σ ms) q = Sub (range 0 q) vs × High q (locals_all ms)
  QueryLocal (stmt s) q = Unit {0}
  QueryLocal (choice_box op gs) q = Unit {0}
  QueryLocal (guard g b) q = Unit {0}

  pub QueryLocalAll : {k : Kind} → Nodes k → ℕ → Type 0
  QueryLocalAll nil q = Unit {0}
  QueryLocalAll (cons n ns) q = QueryLocal n q × QueryLocalAll ns q

pub record Formed (limit : ℕ) (P : Program) (xs : List Name) (c : Config) : Type 0 where
  pub program : T (program_passes P)
  pub names : T (names_pass xs)
  pub top_or : T (is_or c.root)
  pub statements : T (statements_pass c.root P)
  pub scopes : Ok c.root c.next []
  pub query : QueryLocal c.root (size xs)
  pub above : size xs ≤ c.next
  pub last : c.next ≤ suc last_number
  pub fit : parts c.root ≤ limit

-- A query as the reader gives it: its variables' names pass, its statement passes 2 to 7 and has no variables but these.
pub record QueryFits (P : Program) (q : Query) : Type 0 where
  pub names : T (names_pass q.variables)
  pub passes : T (statement_passes P (λ x. true) 0 q.statement)
  pub own : Below (numbers q.statement) (size q.variables)
