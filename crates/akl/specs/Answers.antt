-- Answers, their texts, and the state.
use Rattle.std.specs.Prelude.{List, [], ◌∷◌, ◌++◌, Bool, true, false, ◌&&◌, ℕ, zero, suc, eqb, ltb}
use Rattle.std.proofs.Math.Option.{Option, some, none}
use Rattle.constraint.specs.Tree.{Label}
use Rattle.constraint.specs.Constraint.{Store}
use Rattle.constraint.specs.Solve.{Bnd, free, fun, find, St, untold, solve, satisfiable?, elem}
use Rattle.akl.specs.Base.{Name, bytes, size, nth, range, decimal, if, Result, refused, ok}
use Rattle.akl.specs.Configuration.{Kind, goal, member, Node, or, and, stmt, choice_box, guard, Nodes, nil, cons}

-- "An answer is a solved and-box, satisfiable, in the top or-box or in or-boxes nested in it, left to right."
-- It is known by its locals and its store.
abbrev pub Answer : Type 0
Answer = List ℕ × Store

abbrev pub solved_box : List ℕ → Store → Nodes member → List Answer
solved_box vs σ nil = if (satisfiable? σ) ((vs, σ) ∷ []) []
solved_box vs σ (cons m ms) = []

-- (Members and guarded goals hold none.)
unfoldable mutual
  pub answers : {k : Kind} → Node k → List Answer
  answers (or ns) = answers_all ns
  answers (and vs σ ms) = solved_box vs σ ms
  answers (stmt s) = []
  answers (choice_box op gs) = []
  answers (guard g b) = []

  pub answers_all : {k : Kind} → Nodes k → List Answer
  answers_all nil = []
  answers_all (cons n ns) = answers n ++ answers_all ns

-- ---------------------------------------------------------------------------------------------
-- The text of an answer.

-- The terms: "terms like `f(a,_0)`", an unbound variable being known by its class.
mutual
  pub data Term : Type 0 where
    unbound : ℕ → Term
    built : Label → Terms → Term

  pub data Terms : Type 0 where
    no_terms : Terms
    more_terms : Term → Terms → Terms

unfoldable pub terms : (ℕ → Term) → List ℕ → Terms
terms f [] = no_terms
terms f (y ∷ ys) = more_terms (f y) (terms f ys)

abbrev pub term_of : (ℕ → Term) → ℕ → Bnd → Term
term_of f r free = unbound r
term_of f r (fun g ys) = built g (terms f ys)

-- The term of a variable, down to depth n: the bindings hold no cycle, so their number is enough.
unfoldable pub variable_term : ℕ → St → ℕ → Term
variable_term zero s x = unbound (s.rep x)
variable_term (suc n) s x = term_of (variable_term n s) (s.rep x) (find (s.rep x) s.bs)

-- The unbound variables, "`_0`, `_1` by first appearance".
unfoldable mutual
  pub unknowns : Term → List ℕ → List ℕ
  unknowns (unbound r) seen = if (elem r seen) seen (seen ++ (r ∷ []))
  unknowns (built f ts) seen = unknowns_all ts seen

  pub unknowns_all : Terms → List ℕ → List ℕ
  unknowns_all no_terms seen = seen
  unknowns_all (more_terms t ts) seen = unknowns_all ts (unknowns t seen)

unfoldable pub position : ℕ → List ℕ → ℕ
position r [] = 0
position r (x ∷ l) = if (eqb r x) 0 (suc (position r l))

unfoldable mutual
  pub term_text : Term → List ℕ → List ℕ
  term_text (unbound r) seen = bytes "_" ++ decimal (position r seen)
  term_text (built f ts) seen = f ++ arguments_text ts seen

  -- a name alone, or `(`, the arguments with `,` between, and `)`
  pub arguments_text : Terms → List ℕ → List ℕ
  arguments_text no_terms seen = []
  arguments_text (more_terms t ts) seen = bytes "(" ++ term_text t seen ++ rest_text ts seen

  pub rest_text : Terms → List ℕ → List ℕ
  rest_text no_terms seen = bytes ")"
  rest_text (more_terms t ts) seen = bytes "," ++ term_text t seen ++ rest_text ts seen

-- "each query variable in order of first occurrence as `X = t`, joined by `, `"
unfoldable pub bindings_text : List Name → Terms → List ℕ → List ℕ
bindings_text [] ts seen = []
bindings_text (x ∷ xs) no_terms seen = []
bindings_text (x ∷ []) (more_terms t ts) seen = x ++ bytes " = " ++ term_text t seen
bindings_text (x ∷ (y ∷ xs)) (more_terms t ts) seen = x ++ bytes " = " ++ term_text t seen ++ bytes ", " ++ bindings_text (y ∷ xs) ts seen

-- "With no query variables it is `true`."
abbrev pub line_text : List Name → Terms → List ℕ
line_text [] ts = bytes "true"
line_text (x ∷ xs) ts = bindings_text (x ∷ xs) ts (unknowns_all ts [])

abbrev pub solved_text : List Name → Option St → List ℕ
solved_text xs none = []
solved_text xs (some s) = line_text xs (terms (variable_term (suc (size s.bs)) s) (range 0 (size xs)))

unfoldable pub answer_text : List Name → Answer → List ℕ
answer_text xs a = solved_text xs (solve untold a.1)

-- The outcome of asking for the answer of a number, for a slice of the length m: 16 "no answer of that number, counted
-- from 1", 17 "answer text longer than the lent slice".
abbrev pub numbered : Node goal → ℕ → Option Answer
numbered g zero = none
numbered g (suc n) = nth (answers g) n

abbrev pub fitted : ℕ → List ℕ → Result (List ℕ)
fitted m t = if (ltb m (size t)) (refused 17) (ok t)

unfoldable pub answer : List Name → Node goal → ℕ → ℕ → Result (List ℕ)
answer xs g n m = elim (numbered g n) [ none ↦ refused 16 | some a ↦ fitted m (answer_text xs a) ]

-- ---------------------------------------------------------------------------------------------
-- "The state is `failed` when the top or-box is empty, `final` when every member is an answer, else `open`."

pub data State : Type 0 where
  failed final open_state : State

abbrev pub is_answer : Node goal → Bool
is_answer (or ns) = false
is_answer (and vs σ nil) = satisfiable? σ
is_answer (and vs σ (cons m ms)) = false

unfoldable pub all_answers : Nodes goal → Bool
all_answers nil = true
all_answers (cons n ns) = is_answer n && all_answers ns

unfoldable pub state : Node goal → State
state (or nil) = failed
state (or (cons n ns)) = if (all_answers (cons n ns)) final open_state
state (and vs σ ms) = open_state

abbrev pub state_text : State → List ℕ
state_text failed = bytes "failed"
state_text final = bytes "final"
state_text open_state = bytes "open"
