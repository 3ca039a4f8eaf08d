-- Meaning: when a statement, a goal, a configuration holds; what a configuration's solutions are.
-- Document 01, from "A composition, hiding or clause holds when ..".
use Rattle.std.specs.Prelude.{◌≡◌, refl, ◌↔◌, ◌⊎◌, List, [], ◌∷◌, ◌++◌, map, ℕ, zero, suc, ◌<◌, get_or, length, leb}
use Rattle.std.proofs.Common.{inl, inr}
use Rattle.std.proofs.Math.Option.{Option, some, none}
use Rattle.constraint.specs.Tree.{Tree, node, fnil}
use Rattle.constraint.specs.Constraint.{Con, ctrue, Store, Asg, Sat, Sats, Off}
use Rattle.constraint.specs.Solve.{keep}
use Rattle.akl.specs.Base.{Name, size}
use Rattle.akl.specs.Syntax.{Var, number, level, Stmt, atom, call, comp, hide, choice, Clauses, no_more, clause, Program, defined}
use Rattle.akl.specs.Configuration.{Kind, goal, member, guarded, Node, or, and, stmt, choice_box, guard, Nodes, nil, cons, Config}
use Rattle.akl.specs.Reader.{Query}

-- ---------------------------------------------------------------------------------------------
-- Statements.

-- Trees for the bound variables by their levels, an assignment for the others.
abbrev pub leaf : Tree
leaf = node [] fnil

abbrev pub look : Asg → List Tree → Var → Tree
look ρ ts (number x) = ρ x
look ρ ts (level l) = get_or ts l leaf

-- What program atoms mean: for which trees as arguments an atom holds.
abbrev pub Model : Type 1
Model = Name → List Tree → Type 0

-- "A composition, hiding or clause holds when, with some trees for its hidden variables, all its parts do"; a choice when
-- some clause does.
abbrev mutual
  pub Holds : Stmt → Model → Asg → List Tree → Type 0
  Holds (atom c) Q ρ ts = Sat (look ρ ts) c
  Holds (call p xs) Q ρ ts = Q p (map (look ρ ts) xs)
  Holds (comp a b) Q ρ ts = Holds a Q ρ ts × Holds b Q ρ ts
  Holds (hide n a) Q ρ ts = (us : List Tree) × (size us ≡ n) × Holds a Q ρ (ts ++ us)
  Holds (choice op cs) Q ρ ts = SomeClause cs Q ρ ts

  pub SomeClause : Clauses → Model → Asg → List Tree → Type 0
  SomeClause no_more Q ρ ts = ⊥
  SomeClause (clause n g b cs) Q ρ ts = ((us : List Tree) × (size us ≡ n) × Holds g Q ρ (ts ++ us) × Holds b Q ρ (ts ++ us)) ⊎ SomeClause cs Q ρ ts

-- A program atom holds when its definition's body does, after finitely many unfoldings: n at most here.
-- A definition has no variables but the bound ones, so that the assignment does not matter.
abbrev pub BodyHolds : Model → List Tree → Option Stmt → Type 0
BodyHolds Q ts none = ⊥
BodyHolds Q ts (some b) = Holds b Q (λ x. leaf) ts

unfoldable pub Unfolded : Program → ℕ → Model
Unfolded P zero p ts = ⊥
Unfolded P (suc n) p ts = BodyHolds (Unfolded P n) ts (defined P p (size ts))

abbrev pub Atoms : Program → Model
Atoms P p ts = (n : ℕ) × Unfolded P n p ts

-- ---------------------------------------------------------------------------------------------
-- Goals. q is the number of the query's variables, which have the numbers below q.

-- "its locals but the query's"
abbrev pub hidden_locals : ℕ → List ℕ → List ℕ
hidden_locals q vs = keep (leb q) vs

-- the statement that always holds
abbrev pub nothing : Stmt
nothing = atom ctrue

-- The node holds, and k holds with the same trees for the locals of the and-box that does: "a guarded goal when its body
-- and an and-box that is its guard, or stands in the guard's or-boxes, do with the same trees for that box's locals";
-- "an and-box when, with some for its locals but the query's, its store and members do; an or-box or choice-box when
-- something in it does".
abbrev mutual
  pub HoldsWith : {k : Kind} → Node k → Model → ℕ → Asg → Stmt → Type 0
  HoldsWith (or ns) Q q ρ k = Any ns Q q ρ k
  HoldsWith (and vs σ ms) Q q ρ k = (ρ' : Asg) × Off (hidden_locals q vs) ρ ρ' × Sats ρ' σ × All ms Q q ρ' × Holds k Q ρ' []
  HoldsWith (stmt s) Q q ρ k = Holds s Q ρ [] × Holds k Q ρ []
  HoldsWith (choice_box op gs) Q q ρ k = Any gs Q q ρ nothing × Holds k Q ρ []
  HoldsWith (guard g b) Q q ρ k = HoldsWith g Q q ρ b × Holds k Q ρ []

  pub All : {k : Kind} → Nodes k → Model → ℕ → Asg → Type 0
  All nil Q q ρ = Unit {0}
  All (cons n ns) Q q ρ = HoldsWith n Q q ρ nothing × All ns Q q ρ

  pub Any : {k : Kind} → Nodes k → Model → ℕ → Asg → Stmt → Type 0
  Any nil Q q ρ k = ⊥
  Any (cons n ns) Q q ρ k = HoldsWith n Q q ρ k ⊎ Any ns Q q ρ k

-- ---------------------------------------------------------------------------------------------
-- Solutions: trees for the query's variables, as the values of an assignment at the numbers below q.

-- of a configuration
abbrev pub Solution : Program → ℕ → Config → Asg → Type 0
Solution P q c ρ = HoldsWith c.root (Atoms P) q ρ nothing

-- of a query
abbrev pub QuerySolution : Program → Query → Asg → Type 0
QuerySolution P q ρ = Holds q.statement (Atoms P) ρ []

-- The two have the same trees for the query's variables: they are the same as solutions.
abbrev pub SameBelow : ℕ → Asg → Asg → Type 0
SameBelow q ρ ρ' = (x : ℕ) → x < q → ρ x ≡ ρ' x
