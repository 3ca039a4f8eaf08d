-- What a table of names, num one way and spell the other, must know of a configuration's names; how many calls read it back; and
-- that no list of arguments in it is long. Assumes nothing.
use Rattle.std.specs.Prelude.{[], ◌∷◌, ℕ, suc, ◌+◌, ◌≤◌, length}
use Rattle.constraint.specs.Constraint.{Con, ctrue, cfail, ceq, capp, map_con}
use Rattle.constraint.specs.Constraint as constraint
use Rattle.akl.specs.Base.{Name}
use Rattle.akl.specs.Syntax.{number, Stmt, atom, call, comp, hide, choice, Clauses, no_more, clause}
use Rattle.akl.specs.Configuration.{Kind, Node, or, and, stmt, choice_box, guard, Nodes, nil, cons}
use Rattle.layout.specs.Tables.{SpeltCon, Spelt}

-- Each name in it is the name of its number.
abbrev pub SpeltStore : (Name → ℕ) → (ℕ → Name) → constraint.Store → Type 0
SpeltStore num spell [] = Unit {0}
SpeltStore num spell (c ∷ σ) = SpeltCon num spell (map_con number c) × SpeltStore num spell σ

abbrev mutual
  pub SpeltNode : (Name → ℕ) → (ℕ → Name) → {k : Kind} → Node k → Type 0
  SpeltNode num spell (or ns) = SpeltNodes num spell ns
  SpeltNode num spell (and vs σ ms) = SpeltStore num spell σ × SpeltNodes num spell ms
  SpeltNode num spell (stmt s) = Spelt num spell s
  SpeltNode num spell (choice_box op gs) = SpeltNodes num spell gs
  SpeltNode num spell (guard g b) = SpeltNode num spell g × Spelt num spell b

  pub SpeltNodes : (Name → ℕ) → (ℕ → Name) → {k : Kind} → Nodes k → Type 0
  SpeltNodes num spell nil = Unit {0}
  SpeltNodes num spell (cons n ns) = SpeltNode num spell n × SpeltNodes num spell ns

-- How many calls are enough to read it back.
unfoldable mutual
  pub node_calls : {k : Kind} → Node k → ℕ
  node_calls (or ns) = suc (nodes_calls ns)
  node_calls (and vs σ ms) = suc (nodes_calls ms)
  node_calls (stmt s) = 1
  node_calls (choice_box op gs) = suc (nodes_calls gs)
  node_calls (guard g b) = suc (node_calls g)

  pub nodes_calls : {k : Kind} → Nodes k → ℕ
  nodes_calls nil = 1
  nodes_calls (cons n ns) = node_calls n + nodes_calls ns

-- No list of arguments in it is longer than m.
abbrev pub FewCon : {X : Type 0} → ℕ → Con X → Type 0
FewCon m ctrue = Unit {0}
FewCon m cfail = Unit {0}
FewCon m (ceq x y) = Unit {0}
FewCon m (capp x f ys) = length ys ≤ m

abbrev pub FewStore : ℕ → constraint.Store → Type 0
FewStore m [] = Unit {0}
FewStore m (c ∷ σ) = FewCon m c × FewStore m σ

abbrev mutual
  pub Few : ℕ → Stmt → Type 0
  Few m (atom c) = FewCon m c
  Few m (call p xs) = length xs ≤ m
  Few m (comp a b) = Few m a × Few m b
  Few m (hide n a) = Few m a
  Few m (choice op cs) = FewClauses m cs

  pub FewClauses : ℕ → Clauses → Type 0
  FewClauses m no_more = Unit {0}
  FewClauses m (clause n g b cs) = Few m g × Few m b × FewClauses m cs

abbrev mutual
  pub FewNode : ℕ → {k : Kind} → Node k → Type 0
  FewNode m (or ns) = FewNodes m ns
  FewNode m (and vs σ ms) = FewStore m σ × FewNodes m ms
  FewNode m (stmt s) = Few m s
  FewNode m (choice_box op gs) = FewNodes m gs
  FewNode m (guard g b) = FewNode m g × Few m b

  pub FewNodes : ℕ → {k : Kind} → Nodes k → Type 0
  FewNodes m nil = Unit {0}
  FewNodes m (cons n ns) = FewNode m n × FewNodes m ns
