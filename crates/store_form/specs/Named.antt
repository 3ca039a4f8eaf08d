-- Every name in a statement, a store or a configuration is a K. Assumes nothing.
use Rattle.std.specs.Prelude.{List, [], ◌∷◌, ℕ, ◌<◌}
use Rattle.constraint.specs.Constraint.{Con, ctrue, cfail, ceq, capp}
use Rattle.constraint.specs.Constraint as constraint
use Rattle.akl.specs.Base.{Name}
use Rattle.akl.specs.Syntax.{Stmt, atom, call, comp, hide, choice, Clauses, no_more, clause}
use Rattle.akl.specs.Configuration.{Kind, Node, or, and, stmt, choice_box, guard, Nodes, nil, cons}
use Rattle.store_form.specs.Sizes.{two_bytes}
use Rattle.store_form.specs.State.{number_in}

abbrev pub NamedCon : {X : Type 0} → (Name → Type 0) → Con X → Type 0
NamedCon K ctrue = Unit {0}
NamedCon K cfail = Unit {0}
NamedCon K (ceq x y) = Unit {0}
NamedCon K (capp x f ys) = K f

abbrev pub NamedStore : (Name → Type 0) → constraint.Store → Type 0
NamedStore K [] = Unit {0}
NamedStore K (c ∷ σ) = NamedCon K c × NamedStore K σ

abbrev mutual
  pub NamedStmt : (Name → Type 0) → Stmt → Type 0
  NamedStmt K (atom c) = NamedCon K c
  NamedStmt K (call p xs) = K p
  NamedStmt K (comp a b) = NamedStmt K a × NamedStmt K b
  NamedStmt K (hide n a) = NamedStmt K a
  NamedStmt K (choice op cs) = NamedClauses K cs

  pub NamedClauses : (Name → Type 0) → Clauses → Type 0
  NamedClauses K no_more = Unit {0}
  NamedClauses K (clause n g b cs) = NamedStmt K g × NamedStmt K b × NamedClauses K cs

abbrev mutual
  pub NamedNode : (Name → Type 0) → {k : Kind} → Node k → Type 0
  NamedNode K (or ns) = NamedNodes K ns
  NamedNode K (and vs σ ms) = NamedStore K σ × NamedNodes K ms
  NamedNode K (stmt s) = NamedStmt K s
  NamedNode K (choice_box op gs) = NamedNodes K gs
  NamedNode K (guard g b) = NamedNode K g × NamedStmt K b

  pub NamedNodes : (Name → Type 0) → {k : Kind} → Nodes k → Type 0
  NamedNodes K nil = Unit {0}
  NamedNodes K (cons n ns) = NamedNode K n × NamedNodes K ns

-- a name that stands in the table
abbrev pub InTable : List ℕ → Name → Type 0
InTable N f = number_in N f < two_bytes
