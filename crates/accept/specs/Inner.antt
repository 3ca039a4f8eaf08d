-- What stands inside a goal, said of the goal alone. The stability test (akl/specs/Stability) computes the same by lists; these
-- relations do not use its functions.
use Rattle.std.specs.Prelude.{◌≡◌, List, ◌++◌, ℕ}
use Rattle.constraint.specs.Constraint.{Store, Asg, Sats, In}
use Rattle.akl.specs.Syntax.{Op, Stmt}
use Rattle.akl.specs.Configuration.{Kind, goal, member, guarded, Node, or, and, choice_box, guard, Nodes, cons, Ctx, top, in_or, in_and, in_choice, in_guard}
use Rattle.akl.specs.Places.{Place, at}

-- The goal of the second context is that of the first, or stands inside it (both in one configuration): the second context is
-- the first, or goes on from it inwards.
pub data AtOrIn {k : Kind} (χ : Ctx k) : (j : Kind) → Ctx j → Type 0 where
  same_goal : AtOrIn χ k χ
  through_or : (χ' : Ctx goal) (l r : Nodes goal) → AtOrIn χ goal χ' → AtOrIn χ goal (in_or χ' l r)
  through_and : (χ' : Ctx goal) (vs : List ℕ) (σ : Store) (l r : Nodes member) → AtOrIn χ goal χ' → AtOrIn χ member (in_and χ' vs σ l r)
  through_choice : (χ' : Ctx member) (op : Op) (l r : Nodes guarded) → AtOrIn χ member χ' → AtOrIn χ guarded (in_choice χ' op l r)
  through_guard : (χ' : Ctx guarded) (b : Stmt) → AtOrIn χ guarded χ' → AtOrIn χ goal (in_guard χ' b)

-- The goal of context χ is or contains the box (or guarded goal) that holds what stands at the place.
abbrev pub HoldsBox : {k : Kind} → Ctx k → Place → Type 0
HoldsBox χ (at top n) = AtOrIn χ goal top
HoldsBox χ (at (in_or χ' l r) n) = AtOrIn χ goal χ'
HoldsBox χ (at (in_and χ' vs σ l r) n) = AtOrIn χ goal χ'
HoldsBox χ (at (in_choice χ' op l r) n) = AtOrIn χ member χ'
HoldsBox χ (at (in_guard χ' b) n) = AtOrIn χ guarded χ'

-- m is one of the nodes side by side.
pub data OneOf {k : Kind} (m : Node k) : Nodes k → Type 0 where
  first : (ns : Nodes k) → OneOf m (cons m ns)
  later : (n : Node k) (ns : Nodes k) → OneOf m ns → OneOf m (cons n ns)

-- An and-box with the locals ws stands at or inside the node, and θ is "the stores from the goal down to that box": all that is
-- stored in and-boxes on the way, its own included.
pub data BoxIn : (k : Kind) → Node k → List ℕ → Store → Type 0 where
  it : (ws : List ℕ) (θ : Store) (ms : Nodes member) → BoxIn goal (and ws θ ms) ws θ
  in_member : (vs : List ℕ) (σ : Store) (ms : Nodes member) (m : Node member) (ws : List ℕ) (θ : Store) → OneOf m ms → BoxIn member m ws θ → BoxIn goal (and vs σ ms) ws (σ ++ θ)
  in_or_box : (ns : Nodes goal) (n : Node goal) (ws : List ℕ) (θ : Store) → OneOf n ns → BoxIn goal n ws θ → BoxIn goal (or ns) ws θ
  in_choice_box : (op : Op) (gs : Nodes guarded) (g : Node guarded) (ws : List ℕ) (θ : Store) → OneOf g gs → BoxIn guarded g ws θ → BoxIn member (choice_box op gs) ws θ
  in_its_guard : (g : Node goal) (b : Stmt) (ws : List ℕ) (θ : Store) → BoxIn goal g ws θ → BoxIn guarded (guard g b) ws θ

-- x is one of "all locals inside the goal".
abbrev pub LocalIn : {k : Kind} → Node k → ℕ → Type 0
LocalIn {k} n x = (ws : List ℕ) × (θ : Store) × BoxIn k n ws θ × In x ws

-- The two assignments differ at most on the locals inside the goal.
abbrev pub OffLocals : {k : Kind} → Node k → Asg → Asg → Type 0
OffLocals n ρ ρ' = (x : ℕ) → ¬ LocalIn n x → ρ x ≡ ρ' x

-- "for each and-box at or inside it, the stores from the goal down to that box are together quiet, with all locals inside the
-- goal as V, for the goal's environment" e: "each assignment that satisfies the environment satisfies it too after some choice
-- of values for V".
abbrev pub QuietInside : {k : Kind} → Store → Node k → Type 0
QuietInside {k} e n = (ws : List ℕ) (θ : Store) → BoxIn k n ws θ → (ρ : Asg) → Sats ρ e → (ρ' : Asg) × OffLocals n ρ ρ' × Sats ρ' θ
