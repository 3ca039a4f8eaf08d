-- Meaning over trees labelled with names: as Meaning.antt has it, with names alone for the labels of the trees that hidden
-- variables and locals may have. proofs/NamedSolutions.antt shows that the solutions are the same.
use Rattle.std.specs.Prelude.{◌≡◌, ◌⊎◌, List, [], ◌∷◌, ◌++◌, map, ℕ, zero, suc}
use Rattle.std.proofs.Math.Option.{Option, some, none}
use Rattle.constraint.specs.Tree.{Tree, node, fnil}
use Rattle.constraint.specs.Constraint.{Asg, Sat, Sats, Off}
use Rattle.akl.specs.Base.{size}
use Rattle.akl.specs.Syntax.{Stmt, atom, call, comp, hide, choice, Clauses, no_more, clause, Program, defined}
use Rattle.akl.specs.Configuration.{Kind, Node, or, and, stmt, choice_box, guard, Nodes, nil, cons, Config}
use Rattle.akl.specs.Reader.{Query}
use Rattle.theory.specs.Meaning.{look, Model, hidden_locals, nothing}
use Rattle.theory.specs.Named.{NamedTree, NamedAsg}

abbrev pub NamedTrees : List Tree → Type 0
NamedTrees [] = Unit {0}
NamedTrees (t ∷ ts) = NamedTree t × NamedTrees ts

abbrev mutual
  pub NamedHolds : Stmt → Model → Asg → List Tree → Type 0
  NamedHolds (atom c) Q ρ ts = Sat (look ρ ts) c
  NamedHolds (call p xs) Q ρ ts = Q p (map (look ρ ts) xs)
  NamedHolds (comp a b) Q ρ ts = NamedHolds a Q ρ ts × NamedHolds b Q ρ ts
  NamedHolds (hide n a) Q ρ ts = (us : List Tree) × NamedTrees us × (size us ≡ n) × NamedHolds a Q ρ (ts ++ us)
  NamedHolds (choice op cs) Q ρ ts = NamedSome cs Q ρ ts

  pub NamedSome : Clauses → Model → Asg → List Tree → Type 0
  NamedSome no_more Q ρ ts = ⊥
  NamedSome (clause n g b cs) Q ρ ts = ((us : List Tree) × NamedTrees us × (size us ≡ n) × NamedHolds g Q ρ (ts ++ us) × NamedHolds b Q ρ (ts ++ us)) ⊎ NamedSome cs Q ρ ts

-- A body has no variables but the bound ones, so that the assignment does not matter; it is of the name `a`.
abbrev pub named_leaf : Tree
named_leaf = node (97 ∷ []) fnil

abbrev pub NamedBodyHolds : Model → List Tree → Option Stmt → Type 0
NamedBodyHolds Q ts none = ⊥
NamedBodyHolds Q ts (some b) = NamedHolds b Q (λ x. named_leaf) ts

unfoldable pub NamedUnfolded : Program → ℕ → Model
NamedUnfolded P zero p ts = ⊥
NamedUnfolded P (suc n) p ts = NamedBodyHolds (NamedUnfolded P n) ts (defined P p (size ts))

abbrev pub NamedAtoms : Program → Model
NamedAtoms P p ts = (n : ℕ) × NamedUnfolded P n p ts

abbrev mutual
  pub NamedHoldsWith : {k : Kind} → Node k → Model → ℕ → Asg → Stmt → Type 0
  NamedHoldsWith (or ns) Q q ρ k = NamedAny ns Q q ρ k
  NamedHoldsWith (and vs σ ms) Q q ρ k = (ρ' : Asg) × NamedAsg ρ' × Off (hidden_locals q vs) ρ ρ' × Sats ρ' σ × NamedAll ms Q q ρ' × NamedHolds k Q ρ' []
  NamedHoldsWith (stmt s) Q q ρ k = NamedHolds s Q ρ [] × NamedHolds k Q ρ []
  NamedHoldsWith (choice_box op gs) Q q ρ k = NamedAny gs Q q ρ nothing × NamedHolds k Q ρ []
  NamedHoldsWith (guard g b) Q q ρ k = NamedHoldsWith g Q q ρ b × NamedHolds k Q ρ []

  pub NamedAll : {k : Kind} → Nodes k → Model → ℕ → Asg → Type 0
  NamedAll nil Q q ρ = Unit {0}
  NamedAll (cons n ns) Q q ρ = NamedHoldsWith n Q q ρ nothing × NamedAll ns Q q ρ

  pub NamedAny : {k : Kind} → Nodes k → Model → ℕ → Asg → Stmt → Type 0
  NamedAny nil Q q ρ k = ⊥
  NamedAny (cons n ns) Q q ρ k = NamedHoldsWith n Q q ρ k ⊎ NamedAny ns Q q ρ k

-- Solutions of a configuration and of a query.
abbrev pub NamedSolution : Program → ℕ → Config → Asg → Type 0
NamedSolution P q c ρ = NamedHoldsWith c.root (NamedAtoms P) q ρ nothing

abbrev pub NamedQuerySolution : Program → Query → Asg → Type 0
NamedQuerySolution P q ρ = NamedHolds q.statement (NamedAtoms P) ρ []
