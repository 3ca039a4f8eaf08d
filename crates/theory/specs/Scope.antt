-- Scopes and interference as propositions: what well-formedness (akl: WellFormed) says of the variables of a node that
-- stands where the variables xs are local to and-boxes around it, and all numbers are below N.
use Rattle.std.specs.Prelude.{◌≡◌, ◌⊎◌, List, [], ◌∷◌, ◌++◌, ℕ, ◌<◌, T}
use Rattle.std.proofs.Common.{inl, inr}
use Rattle.constraint.specs.Constraint.{Store, In, vars_all}
use Rattle.constraint.specs.Solve.{distinct}
use Rattle.akl.specs.Syntax.{Stmt}
use Rattle.akl.specs.Configuration.{Kind, goal, Node, or, and, stmt, choice_box, guard, Nodes, nil, cons, Ctx, top, in_or, in_and, in_choice, in_guard}
use Rattle.akl.specs.Stability.{locals, locals_all}
use Rattle.akl.specs.WellFormed.{numbers}

abbrev pub Sub : List ℕ → List ℕ → Type 0
Sub xs ys = (x : ℕ) → In x xs → In x ys

abbrev pub Disjoint : List ℕ → List ℕ → Type 0
Disjoint xs ys = (x : ℕ) → In x xs → In x ys → ⊥

abbrev pub Below : List ℕ → ℕ → Type 0
Below xs N = (x : ℕ) → In x xs → x < N

-- x is local to every and-box that is the node or stands in its or-boxes. (Members and guarded goals are no guards.)
abbrev mutual
  pub Shared : {k : Kind} → Node k → ℕ → Type 0
  Shared (or ns) x = SharedAll ns x
  Shared (and vs σ ms) x = In x vs
  Shared (stmt s) x = ⊥
  Shared (choice_box op gs) x = ⊥
  Shared (guard g b) x = ⊥

  pub SharedAll : {k : Kind} → Nodes k → ℕ → Type 0
  SharedAll nil x = Unit {0}
  SharedAll (cons n ns) x = Shared n x × SharedAll ns x

-- What may stand in a body whose guard is the node: variables around, and those local to every and-box of the guard.
abbrev pub Fits : {k : Kind} → List ℕ → Node k → Stmt → Type 0
Fits xs n b = (x : ℕ) → In x (numbers b) → In x xs ⊎ Shared n x

-- Members side by side: no local of one is local in another.
abbrev pub Apart : {k : Kind} → Nodes k → Type 0
Apart nil = Unit {0}
Apart (cons n ns) = Disjoint (locals n) (locals_all ns) × Apart ns

abbrev mutual
  pub Ok : {k : Kind} → Node k → ℕ → List ℕ → Type 0
  Ok (or ns) N xs = OkAll ns N xs
  Ok (and vs σ ms) N xs = T (distinct vs) × Below vs N × Disjoint vs xs × Sub (vars_all σ) (xs ++ vs) × OkAll ms N (xs ++ vs) × Apart ms
  Ok (stmt s) N xs = Sub (numbers s) xs
  Ok (choice_box op gs) N xs = OkAll gs N xs
  Ok (guard g b) N xs = Ok g N xs × Fits xs g b × Below (numbers b) N

  pub OkAll : {k : Kind} → Nodes k → ℕ → List ℕ → Type 0
  OkAll nil N xs = Unit {0}
  OkAll (cons n ns) N xs = Ok n N xs × OkAll ns N xs

-- The variables local to and-boxes around the hole of a context.
unfoldable pub scope : {k : Kind} → Ctx k → List ℕ
scope top = []
scope (in_or χ l r) = scope χ
scope (in_and χ vs σ l r) = scope χ ++ vs
scope (in_choice χ op l r) = scope χ
scope (in_guard χ b) = scope χ
