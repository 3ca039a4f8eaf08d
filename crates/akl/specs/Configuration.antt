-- Configurations: boxes, guarded goals and and-box members; the contexts in which they stand; environments; the start.
use Rattle.std.specs.Prelude.{List, [], ◌++◌, ℕ}
use Rattle.constraint.specs.Constraint.{Store}
use Rattle.akl.specs.Base.{size, range}
use Rattle.akl.specs.Syntax.{Op, Stmt}
use Rattle.akl.specs.Reader.{Query}

-- What a node may stand as: a goal in an or-box or a guard; a member of an and-box; a guarded goal in a choice-box.
pub data Kind : Type 0 where
  goal member guarded : Kind

mutual
  -- "An or-box holds and-boxes and or-boxes; empty, it is failure."
  -- "An and-box has members, a set of local variables and a store of constraints; with no members it is solved."
  -- "A choice-box holds guarded goals with one operator; a guard is an and-box or an or-box."
  -- The members of an and-box are statements and choice-boxes.
  pub data Node : Kind → Type 0 where
    or : Nodes goal → Node goal
    and : List ℕ → Store → Nodes member → Node goal
    stmt : Stmt → Node member
    choice_box : Op → Nodes guarded → Node member
    guard : Node goal → Stmt → Node guarded

  pub data Nodes : Kind → Type 0 where
    nil : {k : Kind} → Nodes k
    cons : {k : Kind} → Node k → Nodes k → Nodes k

infixr 50 ◌+n◌
unfoldable pub ◌+n◌ : {k : Kind} → Nodes k → Nodes k → Nodes k
nil +n b = b
cons n a +n b = cons n (a +n b)

abbrev pub one : {k : Kind} → Node k → Nodes k
one n = cons n nil

-- failure
abbrev pub failure : Node goal
failure = or nil

-- A context: what stands around a node, from the inside outwards. `top` is around the top or-box; the other four are
-- the box or guarded goal that holds the node, with what stands to its left and to its right, in a context itself.
pub data Ctx : Kind → Type 0 where
  top : Ctx goal
  in_or : Ctx goal → Nodes goal → Nodes goal → Ctx goal
  in_and : Ctx goal → List ℕ → Store → Nodes member → Nodes member → Ctx member
  in_choice : Ctx member → Op → Nodes guarded → Nodes guarded → Ctx guarded
  in_guard : Ctx guarded → Stmt → Ctx goal

-- χ[G]: the node in its context
unfoldable pub plug : {k : Kind} → Ctx k → Node k → Node goal
plug top n = n
plug (in_or χ l r) n = plug χ (or (l +n cons n r))
plug (in_and χ vs σ l r) n = plug χ (and vs σ (l +n cons n r))
plug (in_choice χ op l r) n = plug χ (choice_box op (l +n cons n r))
plug (in_guard χ b) n = plug χ (guard n b)

-- "The environment of a goal is all constraints stored in and-boxes around it."
unfoldable pub env : {k : Kind} → Ctx k → Store
env top = []
env (in_or χ l r) = env χ
env (in_and χ vs σ l r) = env χ ++ σ
env (in_choice χ op l r) = env χ
env (in_guard χ b) = env χ

-- A configuration: its top box, and the number that the next fresh variable takes.
pub record Config : Type 0 where
  pub root : Node goal
  pub next : ℕ

-- "The start is an or-box with one and-box, whose local variables are the query's and whose one member is the query."
-- "The query's variables, those free in it, have the numbers from 0 by first free occurrence."
unfoldable pub start_config : Query → Config
start_config q =
    let n = size q.variables in
    record { root = or (one (and (range 0 n) [] (one (stmt q.statement)))); next = n }
