-- Effect and condition of each of the fourteen rules, in the order of document 01's table. Source 000, section 4.4, has
-- them as G → G' in a context χ.
use Rattle.std.specs.Prelude.{List, [], ◌∷◌, ◌++◌, map, Bool, true, false, ◌&&◌, ◌||◌, not, ℕ, ◌+◌, eqb}
use Rattle.std.proofs.Math.Option.{Option, some, none}
use Rattle.constraint.specs.Constraint.{Con, ctrue, cfail, ceq, capp, map_con, Store}
use Rattle.constraint.specs.Solve.{satisfiable?, quiet?}
use Rattle.akl.specs.Base.{Name, size, range, when, if, ◌>>=◌}
use Rattle.akl.specs.Syntax.{Var, number, level, Op, wait, cond, commit, Stmt, atom, call, comp, hide, choice, Clauses, no_more, clause, Program, defined, opened}
use Rattle.akl.specs.Configuration.{Kind, goal, member, guarded, Node, or, and, stmt, choice_box, guard, Nodes, nil, cons, ◌+n◌, one, failure, Ctx, top, in_or, in_and, in_choice, in_guard, plug, env, Config}
use Rattle.akl.specs.Places.{Place, at}

-- The configuration a rule leads to, G' in the context χ, with the next fresh number; nothing where its condition is false.
abbrev pub Change : Type 0
Change = Option Config

abbrev pub becomes : {k : Kind} → ℕ → Ctx k → Node k → Change
becomes next χ n = some (record { root = plug χ n; next = next })

-- the condition comes first
abbrev pub provided : Bool → Change → Change
provided true c = c
provided false c = none

-- A constraint with its variables' numbers (a member has no bound variables left free).
abbrev pub number_of : Var → ℕ
number_of (number x) = x
number_of (level l) = l

-- "moved to the end of its and-box's store; `true` adds nothing, `fail` a constraint nothing meets"
abbrev pub stored : Con Var → Store
stored ctrue = []
stored cfail = cfail ∷ []
stored (ceq x y) = map_con number_of (ceq x y) ∷ []
stored (capp x f ys) = map_con number_of (capp x f ys) ∷ []

-- Fresh variables "take the next numbers never used before, in order of their lists".
abbrev pub fresh : ℕ → ℕ → List Var
fresh next n = map number (range next n)

-- nothing stands there
abbrev pub empty : {k : Kind} → Nodes k → Bool
empty nil = true
empty (cons n ns) = false

abbrev pub non_empty : {k : Kind} → Nodes k → Bool
non_empty ns = not (empty ns)

-- of an and-box: "with no members it is solved"
abbrev pub solved : Nodes member → Bool
solved ms = empty ms

abbrev pub is_wait : Op → Bool
is_wait wait = true
is_wait cond = false
is_wait commit = false

abbrev pub is_cond : Op → Bool
is_cond wait = false
is_cond cond = true
is_cond commit = false

abbrev pub is_commit : Op → Bool
is_commit wait = false
is_commit cond = false
is_commit commit = true

-- A guard that is solved: its locals and store.
abbrev pub solved_guard : Node goal → Option (List ℕ × Store)
solved_guard (or ns) = none
solved_guard (and vs σ ms) = when (solved ms) (vs, σ)

-- the guard is solved, and quiet for the environment
abbrev pub quiet_guard : Store → Node goal → Bool
quiet_guard e g = elim (solved_guard g) [ none ↦ false | some s ↦ quiet? s.0 e s.1 ]

-- 1 constraint atom
abbrev pub rule_1 : ℕ → Ctx goal → List ℕ → Store → Nodes member → Nodes member → Con Var → Change
rule_1 next χ vs σ l r c = becomes next χ (and vs (σ ++ stored c) (l +n r))

-- 2 program atom: "replaced by its definition's body, arguments for parameters"
abbrev pub rule_2 : Program → ℕ → Ctx member → Name → List Var → Change
rule_2 P next χ p xs = defined P p (size xs) >>= λ b. becomes next χ (stmt (opened b xs))

-- 3 composition: "its two parts become members in its position"
abbrev pub rule_3 : ℕ → Ctx goal → List ℕ → Store → Nodes member → Nodes member → Stmt → Stmt → Change
rule_3 next χ vs σ l r a b = becomes next χ (and vs σ (l +n cons (stmt a) (cons (stmt b) r)))

-- 4 hiding: "fresh locals join the and-box, its statement takes its position"
abbrev pub rule_4 : ℕ → Ctx goal → List ℕ → Store → Nodes member → Nodes member → ℕ → Stmt → Change
rule_4 next χ vs σ l r n a = becomes (next + n) χ (and (vs ++ range next n) σ (l +n cons (stmt (opened a (fresh next n))) r))

-- 5 choice: "becomes a choice-box; each guard an and-box with fresh locals and empty store"
unfoldable pub guarded_goals : Clauses → ℕ → Nodes guarded
guarded_goals no_more next = nil
guarded_goals (clause n g b cs) next = cons (guard (and (range next n) [] (one (stmt (opened g (fresh next n))))) (opened b (fresh next n))) (guarded_goals cs (next + n))

unfoldable pub hidden_in : Clauses → ℕ
hidden_in no_more = 0
hidden_in (clause n g b cs) = n + hidden_in cs

abbrev pub rule_5 : ℕ → Ctx member → Op → Clauses → Change
rule_5 next χ op cs = becomes (next + hidden_in cs) χ (choice_box op (guarded_goals cs next))

-- 6 promotion: "one guarded goal, guard solved; its store goes to the end of the and-box's, its locals join, its body
-- takes the choice-box's position. For `->` and `|` the guard is quiet for that box's store and environment"
abbrev pub rule_6 : ℕ → Ctx goal → List ℕ → Store → Nodes member → Nodes member → Op → Nodes guarded → Change
rule_6 next χ ws θ l r op nil = none
rule_6 next χ ws θ l r op (cons g (cons h gs)) = none
rule_6 next χ ws θ l r op (cons (guard g b) nil) =
    solved_guard g >>= λ s.
    provided (is_wait op || quiet? s.0 (env χ ++ θ) s.1) (becomes next χ (and (ws ++ s.0) (θ ++ s.1) (l +n cons (stmt b) r)))

-- 7 condition: "`->`, solved, quiet, something to its right; all to its right goes"
abbrev pub rule_7 : ℕ → Ctx member → Op → Nodes guarded → Nodes guarded → Node goal → Stmt → Change
rule_7 next χ op l r g b = provided (is_cond op && quiet_guard (env χ) g && non_empty r) (becomes next χ (choice_box op (l +n one (guard g b))))

-- 8 commit: "`|`, solved, quiet, another beside it; all others go"
abbrev pub rule_8 : ℕ → Ctx member → Op → Nodes guarded → Nodes guarded → Node goal → Stmt → Change
rule_8 next χ op l r g b = provided (is_commit op && quiet_guard (env χ) g && (non_empty l || non_empty r)) (becomes next χ (choice_box op (one (guard g b))))

-- 9 environment failure: "its store and environment share no solution; becomes failure"
abbrev pub rule_9 : ℕ → Ctx goal → Store → Change
rule_9 next χ σ = provided (not (satisfiable? (env χ ++ σ))) (becomes next χ failure)

-- 10 goal failure: "it is empty; its and-box becomes failure"
abbrev pub rule_10 : ℕ → Ctx goal → Nodes guarded → Change
rule_10 next χ gs = provided (empty gs) (becomes next χ failure)

-- 11 guard failure: "its guard is failure; it goes"
abbrev pub is_failure : Node goal → Bool
is_failure (or nil) = true
is_failure (or (cons n ns)) = false
is_failure (and vs σ ms) = false

abbrev pub rule_11 : ℕ → Ctx member → Op → Nodes guarded → Nodes guarded → Node goal → Change
rule_11 next χ op l r g = provided (is_failure g) (becomes next χ (choice_box op (l +n r)))

-- 12 splitting: "operator `?`, two or more guarded goals, the first solved; the and-box becomes an or-box of two copies,
-- with the first alone and with the rest". That it takes a stable goal is asked in Step.antt.
abbrev pub rule_12 : ℕ → Ctx goal → List ℕ → Store → Nodes member → Nodes member → Op → Nodes guarded → Change
rule_12 next χ vs σ l r op nil = none
rule_12 next χ vs σ l r op (cons g nil) = none
rule_12 next χ vs σ l r op (cons (guard g b) (cons h gs)) =
    solved_guard g >>= λ s.
    provided (is_wait op) (becomes next χ (or (cons (and vs σ (l +n cons (choice_box op (one (guard g b))) r)) (one (and vs σ (l +n cons (choice_box op (cons h gs)) r))))))

-- 13 distribution: "guard is a non-empty or-box; its first part, then an or-box of the rest, each with the body"
abbrev pub rule_13 : ℕ → Ctx member → Op → Nodes guarded → Nodes guarded → Node goal → Stmt → Change
rule_13 next χ op l r (and vs σ ms) b = none
rule_13 next χ op l r (or nil) b = none
rule_13 next χ op l r (or (cons g gs)) b = becomes next χ (choice_box op (l +n cons (guard g b) (cons (guard (or gs) b) r)))

-- 14 flattening: "its members take its position"
abbrev pub rule_14 : ℕ → Ctx goal → Nodes goal → Nodes goal → Nodes goal → Change
rule_14 next χ l r ns = becomes next χ (or (l +n (ns +n r)))

-- ---------------------------------------------------------------------------------------------
-- The rule of a number at a place: nothing where the rule takes another kind of place.

abbrev pub on_statement : Program → ℕ → ℕ → Ctx goal → List ℕ → Store → Nodes member → Nodes member → Stmt → Change
on_statement P next rule χ vs σ l r (atom c) = provided (eqb rule 1) (rule_1 next χ vs σ l r c)
on_statement P next rule χ vs σ l r (call p xs) = provided (eqb rule 2) (rule_2 P next (in_and χ vs σ l r) p xs)
on_statement P next rule χ vs σ l r (comp a b) = provided (eqb rule 3) (rule_3 next χ vs σ l r a b)
on_statement P next rule χ vs σ l r (hide n a) = provided (eqb rule 4) (rule_4 next χ vs σ l r n a)
on_statement P next rule χ vs σ l r (choice op cs) = provided (eqb rule 5) (rule_5 next (in_and χ vs σ l r) op cs)

abbrev pub on_or_box : ℕ → ℕ → Ctx goal → Nodes goal → Change
on_or_box next rule top ns = none
on_or_box next rule (in_or χ l r) ns = provided (eqb rule 14) (rule_14 next χ l r ns)
on_or_box next rule (in_guard χ b) ns = none

unfoldable pub effect : Program → ℕ → ℕ → Place → Change
effect P next rule (at (in_and χ vs σ l r) (stmt s)) = on_statement P next rule χ vs σ l r s
effect P next rule (at (in_and χ vs σ l r) (choice_box op gs)) =
    if (eqb rule 6) (rule_6 next χ vs σ l r op gs)
    (if (eqb rule 10) (rule_10 next χ gs) (provided (eqb rule 12) (rule_12 next χ vs σ l r op gs)))
effect P next rule (at (in_choice χ op l r) (guard g b)) =
    if (eqb rule 7) (rule_7 next χ op l r g b)
    (if (eqb rule 8) (rule_8 next χ op l r g b)
    (if (eqb rule 11) (rule_11 next χ op l r g) (provided (eqb rule 13) (rule_13 next χ op l r g b))))
effect P next rule (at χ (and vs σ ms)) = provided (eqb rule 9) (rule_9 next χ σ)
effect P next rule (at χ (or ns)) = on_or_box next rule χ ns
