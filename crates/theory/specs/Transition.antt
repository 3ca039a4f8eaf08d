-- The rules as source 000 has them: G → G' in a context χ, with quiet and incompatible said of trees. A transition also
-- names its rule's number and place in document 01, and the next fresh number before and after.
use Rattle.std.specs.Prelude.{◌≡◌, ◌⊎◌, List, [], ◌∷◌, ◌++◌, ℕ, ◌+◌}
use Rattle.std.proofs.Common.{inl, inr}
use Rattle.std.proofs.Math.Option.{some}
use Rattle.constraint.specs.Constraint.{Con, ctrue, Store, Satisfiable, Quiet}
use Rattle.akl.specs.Base.{Name, size, range}
use Rattle.akl.specs.Syntax.{Var, Op, wait, cond, commit, Stmt, atom, call, comp, hide, choice, Clauses, Program, defined, opened}
use Rattle.akl.specs.Configuration.{Kind, goal, member, guarded, Node, or, and, stmt, choice_box, guard, Nodes, nil, cons, ◌+n◌, one, failure, Ctx, in_or, in_and, in_choice, in_guard, env}
use Rattle.akl.specs.Places.{Place, at}
use Rattle.akl.specs.Rules.{stored, fresh, guarded_goals, hidden_in}

-- a list that is not empty
abbrev pub NotEmpty : {k : Kind} → Nodes k → Type 0
NotEmpty nil = ⊥
NotEmpty (cons n ns) = Unit {0}

-- Rule, place, kind and context of the goal that is rewritten, the goal before and after, the next number after. P is the
-- program, N the next number before.
pub data Transition (P : Program) (N : ℕ) : ℕ → Place → (k : Kind) → Ctx k → Node k → Node k → ℕ → Type 0 where
  -- and(R, A, S) → and(R, S), A moved to the store
  constraint_atom : (χ : Ctx goal) (vs : List ℕ) (σ : Store) (l r : Nodes member) (c : Con Var) →
      Transition P N 1 (at (in_and χ vs σ l r) (stmt (atom c))) goal χ (and vs σ (l +n cons (stmt (atom c)) r)) (and vs (σ ++ stored c) (l +n r)) N
  -- A → B by the definition A := B, arguments for parameters
  program_atom : (χ : Ctx member) (p : Name) (xs : List Var) (b : Stmt) → defined P p (size xs) ≡ some b →
      Transition P N 2 (at χ (stmt (call p xs))) member χ (stmt (call p xs)) (stmt (opened b xs)) N
  -- and(R, (A, B), S) → and(R, A, B, S)
  composition : (χ : Ctx goal) (vs : List ℕ) (σ : Store) (l r : Nodes member) (a b : Stmt) →
      Transition P N 3 (at (in_and χ vs σ l r) (stmt (comp a b))) goal χ (and vs σ (l +n cons (stmt (comp a b)) r)) (and vs σ (l +n cons (stmt a) (cons (stmt b) r))) N
  -- and(R, (U : A), S) → and(R, B, S), fresh variables for U joining the locals
  hiding : (χ : Ctx goal) (vs : List ℕ) (σ : Store) (l r : Nodes member) (n : ℕ) (a : Stmt) →
      Transition P N 4 (at (in_and χ vs σ l r) (stmt (hide n a))) goal χ (and vs σ (l +n cons (stmt (hide n a)) r)) (and (vs ++ range N n) σ (l +n cons (stmt (opened a (fresh N n))) r)) (N + n)
  -- a choice starts its guards, each an and-box with fresh locals
  choosing : (χ : Ctx member) (op : Op) (cs : Clauses) →
      Transition P N 5 (at χ (stmt (choice op cs))) member χ (stmt (choice op cs)) (choice_box op (guarded_goals cs N)) (N + hidden_in cs)
  -- and(R, choice(σ_V % B), S)_W^θ → and(R, B, S)_{V ∪ W}^{σ ∧ θ}; for → and | if σ is quiet for θ ∧ env(χ) and V
  promotion : (χ : Ctx goal) (ws : List ℕ) (θ : Store) (l r : Nodes member) (op : Op) (vs : List ℕ) (σ : Store) (b : Stmt) → (op ≡ wait) ⊎ Quiet vs (env χ ++ θ) σ →
      Transition P N 6 (at (in_and χ ws θ l r) (choice_box op (one (guard (and vs σ nil) b)))) goal χ (and ws θ (l +n cons (choice_box op (one (guard (and vs σ nil) b))) r)) (and (ws ++ vs) (θ ++ σ) (l +n cons (stmt b) r)) N
  -- choice(R, σ_V → B, S) → choice(R, σ_V → B), S not empty, σ quiet
  condition : (χ : Ctx member) (l r : Nodes guarded) (vs : List ℕ) (σ : Store) (b : Stmt) → Quiet vs (env χ) σ → NotEmpty r →
      Transition P N 7 (at (in_choice χ cond l r) (guard (and vs σ nil) b)) member χ (choice_box cond (l +n cons (guard (and vs σ nil) b) r)) (choice_box cond (l +n one (guard (and vs σ nil) b))) N
  -- choice(R, σ_V | B, S) → choice(σ_V | B), R or S not empty, σ quiet
  committing : (χ : Ctx member) (l r : Nodes guarded) (vs : List ℕ) (σ : Store) (b : Stmt) → Quiet vs (env χ) σ → NotEmpty l ⊎ NotEmpty r →
      Transition P N 8 (at (in_choice χ commit l r) (guard (and vs σ nil) b)) member χ (choice_box commit (l +n cons (guard (and vs σ nil) b) r)) (choice_box commit (one (guard (and vs σ nil) b))) N
  -- and(R)_V^σ → fail, σ and env(χ) incompatible
  environment_failure : (χ : Ctx goal) (vs : List ℕ) (σ : Store) (ms : Nodes member) → ¬ Satisfiable (env χ ++ σ) →
      Transition P N 9 (at χ (and vs σ ms)) goal χ (and vs σ ms) failure N
  -- and(R, choice(), S) → fail
  goal_failure : (χ : Ctx goal) (vs : List ℕ) (σ : Store) (l r : Nodes member) (op : Op) →
      Transition P N 10 (at (in_and χ vs σ l r) (choice_box op nil)) goal χ (and vs σ (l +n cons (choice_box op nil) r)) failure N
  -- choice(R, fail % B, S) → choice(R, S)
  guard_failure : (χ : Ctx member) (op : Op) (l r : Nodes guarded) (b : Stmt) →
      Transition P N 11 (at (in_choice χ op l r) (guard failure b)) member χ (choice_box op (l +n cons (guard failure b) r)) (choice_box op (l +n r)) N
  -- and(S₁, choice(T₁, T₂), S₂) → or(and(S₁, choice(T₁), S₂), and(S₁, choice(T₂), S₂)), T₁ a solved guard under ?, T₂ not empty
  splitting : (χ : Ctx goal) (vs : List ℕ) (σ : Store) (l r : Nodes member) (us : List ℕ) (τ : Store) (b : Stmt) (t : Node guarded) (ts : Nodes guarded) →
      Transition P N 12 (at (in_and χ vs σ l r) (choice_box wait (cons (guard (and us τ nil) b) (cons t ts)))) goal χ (and vs σ (l +n cons (choice_box wait (cons (guard (and us τ nil) b) (cons t ts))) r)) (or (cons (and vs σ (l +n cons (choice_box wait (one (guard (and us τ nil) b))) r)) (one (and vs σ (l +n cons (choice_box wait (cons t ts)) r))))) N
  -- choice(R, or(G, S) % B, T) → choice(R, G % B, or(S) % B, T)
  distribution : (χ : Ctx member) (op : Op) (l r : Nodes guarded) (g : Node goal) (gs : Nodes goal) (b : Stmt) →
      Transition P N 13 (at (in_choice χ op l r) (guard (or (cons g gs)) b)) member χ (choice_box op (l +n cons (guard (or (cons g gs)) b) r)) (choice_box op (l +n cons (guard g b) (cons (guard (or gs) b) r))) N
  -- or(R, or(S), T) → or(R, S, T)
  flattening : (χ : Ctx goal) (l r ns : Nodes goal) →
      Transition P N 14 (at (in_or χ l r) (or ns)) goal χ (or (l +n cons (or ns) r)) (or (l +n (ns +n r))) N
