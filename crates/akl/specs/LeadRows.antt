-- Rows of the table: what each of the fourteen rules leads to, whole: boxes, stores, locals, bodies and the next number. Each
-- rewrites something that has neighbours on both sides, and more than one in a list wherever an order could be mistaken.
use Rattle.std.specs.Prelude.{List, [], ◌∷◌, ℕ}
use Prim.Native.String.{String}
use Rattle.constraint.specs.Constraint.{ctrue, cfail, ceq, capp}
use Rattle.akl.specs.Base.{bytes}
use Rattle.akl.specs.Syntax.{Var, number, level, Op, wait, cond, commit, Stmt, atom, call, comp, hide, choice, no_more, clause, Def, Program}
use Rattle.akl.specs.Configuration.{goal, member, guarded, Node, or, and, stmt, choice_box, guard, Nodes, nil, cons, one}
use Rattle.akl.specs.RowKinds.{Lead, leads, x, y, z, ◌is◌, config, take, says}

-- variables of bodies and guards
abbrev u : ℕ
u = 3

abbrev v : ℕ
v = 4

-- the statement that v = a
abbrev let_be : ℕ → Stmt
let_be w = atom (capp (number w) (bytes "a") [])

-- v = w as a statement
abbrev equal : Var → Var → Stmt
equal a b = atom (ceq a b)

-- The box stands in the top or-box between two and-boxes: at place 3.
abbrev between : Node goal → Node goal
between n = or (cons (and (x ∷ []) [] (one (says x))) (cons n (one (and (x ∷ []) ((x is "d") ∷ []) nil))))

-- The and-box with locals x and y, two stored constraints, and three members, at places 4, 5 and (if 5 is a statement) 6.
abbrev among_members : Node member → Node goal
among_members m = between (and (x ∷ y ∷ []) ((x is "b") ∷ (y is "c") ∷ []) (cons (says x) (cons m (one (says y)))))

-- the same with its members given
abbrev with_members : Nodes member → Node goal
with_members ms = between (and (x ∷ y ∷ []) ((x is "b") ∷ (y is "c") ∷ []) ms)

-- a choice-box with the operator, at place 5
abbrev with_goals : Op → Nodes guarded → Node goal
with_goals op gs = among_members (choice_box op gs)

-- a solved guard that hides v, with a body on it
abbrev solved_one : ℕ → Node guarded
solved_one w = guard (and (w ∷ []) [] nil) (let_be w)

-- nothing but splitting can rewrite this
abbrev stuck : Node member
stuck = choice_box wait (cons (solved_one u) (one (guard (and [] [] nil) (atom cfail))))

-- the and-box of with-members with a choice-box between two that are stuck
abbrev copy : Nodes guarded → Node goal
copy gs = and (x ∷ y ∷ []) ((x is "b") ∷ (y is "c") ∷ []) (cons stuck (cons (choice_box wait gs) (one stuck)))

-- a guard that failed; one that is quiet where x = b; one that is not solved
abbrev failed_one : Node guarded
failed_one = guard (or nil) (let_be v)

abbrev quiet_one : Node guarded
quiet_one = guard (and (u ∷ []) (ceq u x ∷ (x is "b") ∷ []) nil) (let_be u)

abbrev unsolved_one : Node guarded
unsolved_one = guard (and [] [] (one stuck)) (let_be x)

-- a part of an or-box
abbrev part : ℕ → Node goal
part w = and (w ∷ []) ((w is "e") ∷ []) nil

-- p of 0, 2 and 3 parameters, one q of 2
abbrev define : String → ℕ → Stmt → Def
define p n s = record { name = bytes p; arity = n; body = s }

abbrev swaps : Stmt
swaps = comp (equal (level 1) (level 0)) (hide 1 (equal (level 2) (level 0)))

abbrev rules : Program
rules = define "p" 0 (atom cfail) ∷ define "q" 2 (atom cfail) ∷ define "p" 2 swaps ∷ define "p" 3 (atom ctrue) ∷ define "p" 2 (atom ctrue) ∷ []

unfoldable pub lead_rows : List Lead
lead_rows =
    -- 1: to the end of the store
    leads [] (config (among_members (stmt (equal (number y) (number x)))) 9) (take 1 5 0)
    (config (between (and (x ∷ y ∷ []) ((x is "b") ∷ (y is "c") ∷ ceq y x ∷ []) (cons (says x) (one (says y))))) 9)
    ∷ leads [] (config (among_members (stmt (atom (capp (number y) (bytes "f") (number y ∷ number x ∷ []))))) 9) (take 1 5 0)
    (config (between (and (x ∷ y ∷ []) ((x is "b") ∷ (y is "c") ∷ capp y (bytes "f") (y ∷ x ∷ []) ∷ []) (cons (says x) (one (says y))))) 9)
    -- .. `true` adds nothing, `fail` a constraint nothing meets
    ∷ leads [] (config (among_members (stmt (atom ctrue))) 9) (take 1 5 0) (config (with_members (cons (says x) (one (says y)))) 9)
    ∷ leads [] (config (among_members (stmt (atom cfail))) 9) (take 1 5 0)
    (config (between (and (x ∷ y ∷ []) ((x is "b") ∷ (y is "c") ∷ cfail ∷ []) (cons (says x) (one (says y))))) 9)
    -- 2: the definition of that name and number of parameters, arguments in their order; hidden variables stay hidden. (One name
    -- and arity twice is refused by 4; the definitions take the first.)
    ∷ leads rules (config (among_members (stmt (call (bytes "p") (number y ∷ number x ∷ [])))) 9) (take 2 5 0)
    (config (among_members (stmt (comp (equal (number x) (number y)) (hide 1 (equal (level 0) (number y)))))) 9)
    -- 3: both parts in its position
    ∷ leads [] (config (among_members (stmt (comp (let_be u) (let_be v)))) 9) (take 3 5 0)
    (config (with_members (cons (says x) (cons (says u) (cons (says v) (one (says y)))))) 9)
    -- 4: fresh locals behind the others, in the list's order
    ∷ leads [] (config (among_members (stmt (hide 2 (equal (level 0) (level 1))))) 9) (take 4 5 0)
    (config (between (and (x ∷ y ∷ 9 ∷ 10 ∷ []) ((x is "b") ∷ (y is "c") ∷ []) (cons (says x) (cons (stmt (equal (number 9) (number 10))) (one (says y)))))) 11)
    -- .. what is hidden deeper stays a level
    ∷ leads [] (config (among_members (stmt (hide 1 (hide 1 (equal (level 0) (level 1)))))) 9) (take 4 5 0)
    (config (between (and (x ∷ y ∷ 9 ∷ []) ((x is "b") ∷ (y is "c") ∷ []) (cons (says x) (cons (stmt (hide 1 (equal (number 9) (level 0)))) (one (says y)))))) 10)
    -- 5: clause by clause, each with numbers of its own, those that are not used too; guard and body share them
    ∷ leads [] (config (among_members (stmt (choice cond (clause 1 (equal (level 0) (number x)) (equal (number y) (level 0)) (clause 2 (atom ctrue) (atom cfail)
    (clause 2 (equal (level 0) (level 1)) (equal (level 1) (level 0)) no_more)))))) 9) (take 5 5 0)
    (config (with_goals cond (cons (guard (and (9 ∷ []) [] (one (stmt (equal (number 9) (number x))))) (equal (number y) (number 9)))
    (cons (guard (and (10 ∷ 11 ∷ []) [] (one (stmt (atom ctrue)))) (atom cfail))
    (one (guard (and (12 ∷ 13 ∷ []) [] (one (stmt (equal (number 12) (number 13))))) (equal (number 13) (number 12))))))) 14)
    -- 6: the guard's store behind the box's, its locals behind the box's, the body in the choice-box's position
    ∷ leads [] (config (with_goals wait (one (guard (and (u ∷ v ∷ []) (ceq u x ∷ (v is "e") ∷ []) nil) (equal (number u) (number v))))) 9) (take 6 5 0)
    (config (between (and (x ∷ y ∷ u ∷ v ∷ []) ((x is "b") ∷ (y is "c") ∷ ceq u x ∷ (v is "e") ∷ []) (cons (says x) (cons (stmt (equal (number u) (number v))) (one (says y)))))) 9)
    ∷ leads [] (config (with_goals cond (one (guard (and (u ∷ []) (ceq u x ∷ (y is "c") ∷ []) nil) (let_be u)))) 9) (take 6 5 0)
    (config (between (and (x ∷ y ∷ u ∷ []) ((x is "b") ∷ (y is "c") ∷ ceq u x ∷ (y is "c") ∷ []) (cons (says x) (cons (says u) (one (says y)))))) 9)
    -- 7: what is left of it stays, and it with its guard and body
    ∷ leads [] (config (with_goals cond (cons failed_one (cons quiet_one (cons (solved_one v) (one (solved_one u)))))) 9) (take 7 8 0)
    (config (with_goals cond (cons failed_one (one quiet_one))) 9)
    -- 8: all others go, on both sides
    ∷ leads [] (config (with_goals commit (cons failed_one (cons quiet_one (cons (solved_one v) (one (solved_one u)))))) 9) (take 8 8 0)
    (config (with_goals commit (one quiet_one)) 9)
    -- 9: failure stands in the and-box's position; a guard's body stays
    ∷ leads [] (config (between (and (x ∷ []) ((x is "b") ∷ (x is "c") ∷ []) (one (says x)))) 9) (take 9 3 0) (config (between (or nil)) 9)
    ∷ leads [] (config (with_goals wait (cons (solved_one u) (cons (guard (and (v ∷ []) ((x is "c") ∷ []) (one (says v))) (let_be v)) (one (solved_one u))))) 9) (take 9 9 0)
    (config (with_goals wait (cons (solved_one u) (cons failed_one (one (solved_one u))))) 9)
    -- 10: failure in the and-box's position
    ∷ leads [] (config (with_goals wait nil) 9) (take 10 5 0) (config (between (or nil)) 9)
    -- 11: it goes, with its body, and no other
    ∷ leads [] (config (with_goals wait (cons (solved_one u) (cons failed_one (cons (solved_one v) (one failed_one))))) 9) (take 11 8 0)
    (config (with_goals wait (cons (solved_one u) (cons (solved_one v) (one failed_one)))) 9)
    -- 12: an or-box of two copies in the and-box's position, the first with the first alone
    ∷ leads [] (config (with_members (cons stuck (cons (choice_box wait (cons (solved_one v) (cons unsolved_one (one (solved_one z))))) (one stuck)))) 9) (take 12 9 3)
    (config (between (or (cons (copy (one (solved_one v))) (one (copy (cons unsolved_one (one (solved_one z)))))))) 9)
    -- 13: the first part, then an or-box of the rest, each with the body, in its position
    ∷ leads [] (config (with_goals commit (cons (solved_one u) (cons (guard (or (cons (part u) (cons (part v) (one (part z))))) (let_be x)) (one (solved_one v))))) 9) (take 13 8 0)
    (config (with_goals commit (cons (solved_one u) (cons (guard (part u) (let_be x)) (cons (guard (or (cons (part v) (one (part z)))) (let_be x)) (one (solved_one v)))))) 9)
    -- .. of one part: the rest is empty and stays; a part that is an or-box becomes the guard
    ∷ leads [] (config (with_goals wait (cons (solved_one u) (cons (guard (or (one (or (one (part u))))) (let_be x)) (one (solved_one v))))) 9) (take 13 8 0)
    (config (with_goals wait (cons (solved_one u) (cons (guard (or (one (part u))) (let_be x)) (cons (guard (or nil) (let_be x)) (one (solved_one v)))))) 9)
    -- 14: its members in its position, in their order, one layer only
    ∷ leads [] (config (between (or (cons (part u) (cons (or (one (part v))) (one (part z)))))) 9) (take 14 3 0)
    (config (or (cons (and (x ∷ []) [] (one (says x))) (cons (part u) (cons (or (one (part v))) (cons (part z) (one (and (x ∷ []) ((x is "d") ∷ []) nil))))))) 9)
    ∷ leads [] (config (between (or nil)) 9) (take 14 3 0)
    (config (or (cons (and (x ∷ []) [] (one (says x))) (one (and (x ∷ []) ((x is "d") ∷ []) nil)))) 9)
    ∷ []
