-- Well-formed programs and configurations. Document 01: "A store is well formed when its program and statements would pass
-- 2 to 7, locals do not interfere (000, section 4.6), each free variable is local to an and-box around it or, in a body,
-- to every and-box that is its guard or stands in its guard's or-box or in or-boxes nested there, query variables are
-- local to exactly the and-boxes of the top or-box and of or-boxes nested in it, no variable has the next fresh number or
-- a higher one, and parts fit."
use Rattle.std.specs.Prelude.{List, [], ◌∷◌, ◌++◌, map, Bool, true, false, ◌&&◌, ◌||◌, not, ℕ, suc, ◌+◌, max, leb, ltb}
use Rattle.constraint.specs.Constraint.{Con, ctrue, cfail, ceq, capp, vars_all}
use Rattle.constraint.specs.Solve.{elem, distinct}
use Rattle.akl.specs.Base.{Name, bytes, is_some, size, same, repeats, any, all, range}
use Rattle.akl.specs.Limits.{name_bytes, most_definitions, most_arguments, most_query_variables, most_depth, last_number}
use Rattle.akl.specs.Syntax.{Var, number, level, Stmt, atom, call, comp, hide, choice, Clauses, no_more, clause, Def, Program, defined}
use Rattle.akl.specs.Token.{Class, small, capital, digit, underscore, blank, mark, other, class_of, word_class, digit_class}
use Rattle.akl.specs.Reader.{twice}
use Rattle.akl.specs.Configuration.{Kind, goal, Node, or, and, stmt, choice_box, guard, Nodes, nil, cons, Config}
use Rattle.akl.specs.Parts.{parts}
use Rattle.akl.specs.Stability.{locals, locals_all}

-- ---------------------------------------------------------------------------------------------
-- "its program and statements would pass 2 to 7"

-- 2: spelled as a name, as digits, as a variable, of 1 to 32 bytes
abbrev pub is_small : Class → Bool
is_small small = true
is_small capital = false
is_small digit = false
is_small underscore = false
is_small blank = false
is_small mark = false
is_small other = false

abbrev pub is_capital : Class → Bool
is_capital small = false
is_capital capital = true
is_capital digit = false
is_capital underscore = false
is_capital blank = false
is_capital mark = false
is_capital other = false

abbrev pub begins : (Class → Bool) → Name → Bool
begins p [] = false
begins p (x ∷ w) = p (class_of x)

unfoldable pub spelled_name : Name → Bool
spelled_name w = begins is_small w && all (λ x. word_class (class_of x)) w && leb (size w) name_bytes

unfoldable pub spelled_digits : Name → Bool
spelled_digits w = begins digit_class w && all (λ x. digit_class (class_of x)) w && leb (size w) name_bytes

unfoldable pub spelled_variable : Name → Bool
spelled_variable w = begins is_capital w && all (λ x. word_class (class_of x)) w && leb (size w) name_bytes

-- a predicate's name: "`true` and `fail` name no predicate"
unfoldable pub spelled_predicate : Name → Bool
spelled_predicate p = spelled_name p && not (same p (bytes "true")) && not (same p (bytes "fail"))

-- A variable: a level below n, or a number that passes the test.
abbrev pub variable_fits : (ℕ → Bool) → ℕ → Var → Bool
variable_fits free n (number x) = free x
variable_fits free n (level l) = ltb l n

abbrev pub few : {A : Type 0} → List A → Bool
few xs = leb (size xs) most_arguments

abbrev pub constraint_fits : (ℕ → Bool) → ℕ → Con Var → Bool
constraint_fits free n ctrue = true
constraint_fits free n cfail = true
constraint_fits free n (ceq x y) = variable_fits free n x && variable_fits free n y
constraint_fits free n (capp x f ys) = variable_fits free n x && all (variable_fits free n) ys && few ys && (spelled_name f || spelled_digits f)

-- 3, 5 and 6 (and hidden lists that are not empty, choices of one clause or more): n bound variables around, `free` the
-- numbers that may stand. A statement here cannot break 4 or 7.
unfoldable mutual
  pub statement_fits : Stmt → Program → (ℕ → Bool) → ℕ → Bool
  statement_fits (atom c) P free n = constraint_fits free n c
  statement_fits (call p xs) P free n = all (variable_fits free n) xs && few xs && is_some (defined P p (size xs))
  statement_fits (comp a b) P free n = statement_fits a P free n && statement_fits b P free n
  statement_fits (hide m a) P free n = leb 1 m && statement_fits a P free (n + m)
  statement_fits (choice op cs) P free n = some_clause cs && clauses_fit cs P free n

  pub clauses_fit : Clauses → Program → (ℕ → Bool) → ℕ → Bool
  clauses_fit no_more P free n = true
  clauses_fit (clause m g b cs) P free n = statement_fits g P free (n + m) && statement_fits b P free (n + m) && clauses_fit cs P free n

  pub some_clause : Clauses → Bool
  some_clause no_more = false
  some_clause (clause m g b cs) = true

-- The least depth of a text that reads as the statement: only a composition that is the left part of one needs a bracket
-- that says nothing.
abbrev pub is_comp : Stmt → Bool
is_comp (atom c) = false
is_comp (call p xs) = false
is_comp (comp a b) = true
is_comp (hide n a) = false
is_comp (choice op cs) = false

abbrev pub bracketed : Bool → ℕ → ℕ
bracketed true d = suc d
bracketed false d = d

unfoldable mutual
  pub depth : Stmt → ℕ
  depth (atom c) = 0
  depth (call p xs) = 0
  depth (comp a b) = max (bracketed (is_comp a) (depth a)) (depth b)
  depth (hide n a) = suc (depth a)
  depth (choice op cs) = suc (clauses_depth cs)

  pub clauses_depth : Clauses → ℕ
  clauses_depth no_more = 0
  clauses_depth (clause n g b cs) = max (max (depth g) (depth b)) (clauses_depth cs)

unfoldable pub statement_passes : Program → (ℕ → Bool) → ℕ → Stmt → Bool
statement_passes P free n s = statement_fits s P free n && leb (depth s) most_depth

-- a definition: its body has no variables but its levels
unfoldable pub definition_passes : Program → Def → Bool
definition_passes P d = spelled_predicate d.name && leb d.arity most_arguments && statement_passes P (λ x. false) d.arity d.body

unfoldable pub program_passes : Program → Bool
program_passes P = leb (size P) most_definitions && not (twice (map (λ d. (d.name, d.arity)) P)) && all (definition_passes P) P

-- a stored constraint came from an atom of a statement; `true` is never stored
abbrev pub stored_fits : Con ℕ → Bool
stored_fits ctrue = false
stored_fits cfail = true
stored_fits (ceq x y) = true
stored_fits (capp x f ys) = few ys && (spelled_name f || spelled_digits f)

-- every statement of a configuration: members, bodies and what is stored
unfoldable mutual
  pub statements_pass : {k : Kind} → Node k → Program → Bool
  statements_pass (or ns) P = statements_pass_all ns P
  statements_pass (and vs σ ms) P = all stored_fits σ && statements_pass_all ms P
  statements_pass (stmt s) P = statement_passes P (λ x. true) 0 s
  statements_pass (choice_box op gs) P = statements_pass_all gs P
  statements_pass (guard g b) P = statements_pass g P && statement_passes P (λ x. true) 0 b

  pub statements_pass_all : {k : Kind} → Nodes k → Program → Bool
  statements_pass_all nil P = true
  statements_pass_all (cons n ns) P = statements_pass n P && statements_pass_all ns P

-- ---------------------------------------------------------------------------------------------
-- "locals do not interfere": "Two sets of local variables in a goal interfere if their intersection is non-empty and
-- either they occur in different goals in an and-box, or one occurs in the and-box of the other." (000, section 4.6)

unfoldable pub disjoint : List ℕ → List ℕ → Bool
disjoint xs ys = not (any (λ x. elem x ys) xs)

unfoldable mutual
  pub no_interference : {k : Kind} → Node k → Bool
  no_interference (or ns) = apart_or ns
  no_interference (and vs σ ms) = distinct vs && disjoint vs (locals_all ms) && apart_and ms
  no_interference (stmt s) = true
  no_interference (choice_box op gs) = apart_or gs
  no_interference (guard g b) = no_interference g

  -- side by side in an or-box or a choice-box
  pub apart_or : {k : Kind} → Nodes k → Bool
  apart_or nil = true
  apart_or (cons n ns) = no_interference n && apart_or ns

  -- side by side in an and-box
  pub apart_and : {k : Kind} → Nodes k → Bool
  apart_and nil = true
  apart_and (cons n ns) = no_interference n && disjoint (locals n) (locals_all ns) && apart_and ns

-- ---------------------------------------------------------------------------------------------
-- "each free variable is local to an and-box around it or, in a body, to every and-box that is its guard or stands in its
-- guard's or-box or in or-boxes nested there"

-- The numbers in a statement.
abbrev pub variable_numbers : Var → List ℕ
variable_numbers (number x) = x ∷ []
variable_numbers (level l) = []

unfoldable pub list_numbers : List Var → List ℕ
list_numbers [] = []
list_numbers (v ∷ vs) = variable_numbers v ++ list_numbers vs

abbrev pub constraint_numbers : Con Var → List ℕ
constraint_numbers ctrue = []
constraint_numbers cfail = []
constraint_numbers (ceq x y) = variable_numbers x ++ variable_numbers y
constraint_numbers (capp x f ys) = variable_numbers x ++ list_numbers ys

unfoldable mutual
  pub numbers : Stmt → List ℕ
  numbers (atom c) = constraint_numbers c
  numbers (call p xs) = list_numbers xs
  numbers (comp a b) = numbers a ++ numbers b
  numbers (hide n a) = numbers a
  numbers (choice op cs) = clauses_numbers cs

  pub clauses_numbers : Clauses → List ℕ
  clauses_numbers no_more = []
  clauses_numbers (clause n g b cs) = numbers g ++ numbers b ++ clauses_numbers cs

-- The locals of each and-box that is the guard or stands in its or-boxes.
unfoldable mutual
  pub guard_boxes : {k : Kind} → Node k → List (List ℕ)
  guard_boxes (or ns) = guard_boxes_all ns
  guard_boxes (and vs σ ms) = vs ∷ []
  guard_boxes (stmt s) = []
  guard_boxes (choice_box op gs) = []
  guard_boxes (guard g b) = []

  pub guard_boxes_all : {k : Kind} → Nodes k → List (List ℕ)
  guard_boxes_all nil = []
  guard_boxes_all (cons n ns) = guard_boxes n ++ guard_boxes_all ns

-- xs are the variables local to and-boxes around.
unfoldable mutual
  pub in_scope : {k : Kind} → Node k → List ℕ → Bool
  in_scope (or ns) xs = in_scope_all ns xs
  in_scope (and vs σ ms) xs = all (λ x. elem x (xs ++ vs)) (vars_all σ) && in_scope_all ms (xs ++ vs)
  in_scope (stmt s) xs = all (λ x. elem x xs) (numbers s)
  in_scope (choice_box op gs) xs = in_scope_all gs xs
  in_scope (guard g b) xs = in_scope g xs && all (λ x. elem x xs || all (elem x) (guard_boxes g)) (numbers b)

  pub in_scope_all : {k : Kind} → Nodes k → List ℕ → Bool
  in_scope_all nil xs = true
  in_scope_all (cons n ns) xs = in_scope n xs && in_scope_all ns xs

-- ---------------------------------------------------------------------------------------------
-- "query variables are local to exactly the and-boxes of the top or-box and of or-boxes nested in it": q of them

unfoldable mutual
  pub query_locals : {k : Kind} → Node k → ℕ → Bool
  query_locals (or ns) q = query_locals_all ns q
  query_locals (and vs σ ms) q = all (λ x. elem x vs) (range 0 q) && all (leb q) (locals_all ms)
  query_locals (stmt s) q = true
  query_locals (choice_box op gs) q = true
  query_locals (guard g b) q = true

  pub query_locals_all : {k : Kind} → Nodes k → ℕ → Bool
  query_locals_all nil q = true
  query_locals_all (cons n ns) q = query_locals n q && query_locals_all ns q

-- ---------------------------------------------------------------------------------------------
-- "no variable has the next fresh number or a higher one"

unfoldable mutual
  pub all_numbers : {k : Kind} → Node k → List ℕ
  all_numbers (or ns) = all_numbers_in ns
  all_numbers (and vs σ ms) = vs ++ vars_all σ ++ all_numbers_in ms
  all_numbers (stmt s) = numbers s
  all_numbers (choice_box op gs) = all_numbers_in gs
  all_numbers (guard g b) = all_numbers g ++ numbers b

  pub all_numbers_in : {k : Kind} → Nodes k → List ℕ
  all_numbers_in nil = []
  all_numbers_in (cons n ns) = all_numbers n ++ all_numbers_in ns

abbrev pub is_or : Node goal → Bool
is_or (or ns) = true
is_or (and vs σ ms) = false

-- ---------------------------------------------------------------------------------------------
-- All of it. xs are the names of the query's variables; `limit` is the number of parts that fit.

unfoldable pub names_pass : List Name → Bool
names_pass xs = leb (size xs) most_query_variables && not (repeats xs) && all spelled_variable xs

unfoldable pub well_formed : ℕ → Program → List Name → Config → Bool
well_formed limit P xs c =
    program_passes P && names_pass xs && is_or c.root
    && statements_pass c.root P
    && no_interference c.root
    && in_scope c.root []
    && query_locals c.root (size xs)
    && all (λ x. ltb x c.next) (range 0 (size xs) ++ all_numbers c.root)
    && leb c.next (suc last_number)
    && leb (parts c.root) limit
