-- What a program text and a query text stand for, or the refusal: 1 to 7, the lowest that is due anywhere in the text.
use Rattle.std.specs.Prelude.{List, [], ◌∷◌, ◌++◌, map, Bool, true, false, ◌&&◌, ◌||◌, not, ℕ, suc, eqb, leb, ltb}
use Rattle.std.proofs.Math.Option.{Option, some, none}
use Rattle.constraint.specs.Constraint.{Con, ctrue, cfail, ceq, capp, map_con}
use Rattle.akl.specs.Base.{Name, size, same, among, repeats, first, last, once, least, any, flat, if, ◌>>=◌, Result, refused, ok}
use Rattle.akl.specs.Limits.{program_bytes, query_bytes, most_definitions, most_arguments, most_query_variables, most_depth}
use Rattle.akl.specs.Syntax.{Var, number, level, Op, wait, cond, commit, Stmt, atom, call, comp, hide, choice, Clauses, no_more, clause, Def, Program}
use Rattle.akl.specs.Token.{tokens}
use Rattle.akl.specs.Grammar.{Statement, single, joined, Simple, constraint, program, bracket, Bracket, plain, hiding, choosing, Clause, written, Others, end, and_also, Definition}
use Rattle.akl.specs.Parse.{parse_query, parse_program}

-- The names of variables in a constraint, in order.
abbrev pub names_in : Con Name → List Name
names_in ctrue = []
names_in cfail = []
names_in (ceq x y) = x ∷ y ∷ []
names_in (capp x f ys) = x ∷ ys

abbrev pub operator_of : Clause → Op
operator_of (written xs g op b) = op

abbrev pub same_operator : Op → Op → Bool
same_operator wait wait = true
same_operator wait cond = false
same_operator wait commit = false
same_operator cond wait = false
same_operator cond cond = true
same_operator cond commit = false
same_operator commit wait = false
same_operator commit cond = false
same_operator commit commit = true

unfoldable pub mixed : Op → Others → Bool
mixed op end = false
mixed op (and_also c cs) = not (same_operator op (operator_of c)) || mixed op cs

-- ---------------------------------------------------------------------------------------------
-- Faults: the refusals 3 to 7 that a tree gives, each where it stands.
-- Around a statement are the definitions that program atoms may name; the bound variables (none where any variable
-- may stand free, as in a query); and the number of brackets.

abbrev pub fault : ℕ → Bool → List ℕ
fault n b = if b (n ∷ []) []

pub record Around : Type 0 where
  pub definitions : List (Name × ℕ)
  pub bound : Option (List Name)
  pub depth : ℕ

-- "in a program, variable neither parameter nor hidden"
abbrev pub unbound : Option (List Name) → List Name → Bool
unbound none xs = false
unbound (some bs) xs = any (λ x. not (among x bs)) xs

abbrev pub hiding_also : List Name → Around → Around
hiding_also xs a = record { definitions = a.definitions; bound = a.bound >>= (λ bs. some (bs ++ xs)); depth = a.depth }

abbrev pub deeper : Around → Around
deeper a = record { definitions = a.definitions; bound = a.bound; depth = suc a.depth }

abbrev pub unknown : Around → Name → ℕ → Bool
unknown a p n = not (any (λ d. same d.0 p && eqb d.1 n) a.definitions)

abbrev pub constraint_faults : Con Name → Around → List ℕ
constraint_faults ctrue a = []
constraint_faults cfail a = []
constraint_faults (ceq x y) a = fault 6 (unbound a.bound (x ∷ y ∷ []))
constraint_faults (capp x f ys) a = fault 3 (ltb most_arguments (size ys)) ++ fault 6 (unbound a.bound (x ∷ ys))

unfoldable mutual
  pub statement_faults : Statement → Around → List ℕ
  statement_faults (single s) a = simple_faults s a
  statement_faults (joined s r) a = simple_faults s a ++ statement_faults r a

  pub simple_faults : Simple → Around → List ℕ
  simple_faults (constraint c) a = constraint_faults c a
  simple_faults (program p xs) a = fault 3 (ltb most_arguments (size xs)) ++ fault 5 (unknown a p (size xs)) ++ fault 6 (unbound a.bound xs)
  simple_faults (bracket b) a = fault 3 (leb most_depth a.depth) ++ bracket_faults b (deeper a)

  pub bracket_faults : Bracket → Around → List ℕ
  bracket_faults (plain s) a = statement_faults s a
  bracket_faults (hiding x xs s) a = fault 4 (repeats (x ∷ xs)) ++ statement_faults s (hiding_also (x ∷ xs) a)
  bracket_faults (choosing c cs) a = fault 7 (mixed (operator_of c) cs) ++ clause_faults c a ++ others_faults cs a

  pub clause_faults : Clause → Around → List ℕ
  clause_faults (written xs g op b) a = fault 4 (repeats xs) ++ statement_faults g (hiding_also xs a) ++ statement_faults b (hiding_also xs a)

  pub others_faults : Others → Around → List ℕ
  others_faults end a = []
  others_faults (and_also c cs) a = clause_faults c a ++ others_faults cs a

-- ---------------------------------------------------------------------------------------------
-- The variables of a query, "those free in it": each free occurrence, in the order of the text.

abbrev pub not_bound : List Name → List Name → List Name
not_bound bs xs = flat (λ x. if (among x bs) [] (x ∷ [])) xs

unfoldable mutual
  pub statement_free : Statement → List Name → List Name
  statement_free (single s) bs = simple_free s bs
  statement_free (joined s r) bs = simple_free s bs ++ statement_free r bs

  pub simple_free : Simple → List Name → List Name
  simple_free (constraint c) bs = not_bound bs (names_in c)
  simple_free (program p xs) bs = not_bound bs xs
  simple_free (bracket b) bs = bracket_free b bs

  pub bracket_free : Bracket → List Name → List Name
  bracket_free (plain s) bs = statement_free s bs
  bracket_free (hiding x xs s) bs = statement_free s (bs ++ (x ∷ xs))
  bracket_free (choosing c cs) bs = clause_free c bs ++ others_free cs bs

  pub clause_free : Clause → List Name → List Name
  clause_free (written xs g op b) bs = statement_free g (bs ++ xs) ++ statement_free b (bs ++ xs)

  pub others_free : Others → List Name → List Name
  others_free end bs = []
  others_free (and_also c cs) bs = clause_free c bs ++ others_free cs bs

-- "by first free occurrence"
unfoldable pub query_variables : Statement → List Name
query_variables s = once [] (statement_free s [])

-- ---------------------------------------------------------------------------------------------
-- The abstract syntax of a tree: qs are the query's variables, bs the bound names, outermost first.

-- "A hidden name covers an outer one of the same spelling": the last of the bound names counts.
abbrev pub variable_of : List Name → List Name → Name → Var
variable_of qs bs x = elim (last x bs) [ some l ↦ level l | none ↦ elim (first x qs) [ some i ↦ number i | none ↦ number (size qs) ] ]

unfoldable mutual
  -- "A, B, C reads as A, (B, C)"
  pub statement_of : Statement → List Name → List Name → Stmt
  statement_of (single s) qs bs = simple_of s qs bs
  statement_of (joined s r) qs bs = comp (simple_of s qs bs) (statement_of r qs bs)

  pub simple_of : Simple → List Name → List Name → Stmt
  simple_of (constraint c) qs bs = atom (map_con (variable_of qs bs) c)
  simple_of (program p xs) qs bs = call p (map (variable_of qs bs) xs)
  simple_of (bracket b) qs bs = bracket_of b qs bs

  -- "`(S)`, which reads as S"
  pub bracket_of : Bracket → List Name → List Name → Stmt
  bracket_of (plain s) qs bs = statement_of s qs bs
  bracket_of (hiding x xs s) qs bs = hide (size (x ∷ xs)) (statement_of s qs (bs ++ (x ∷ xs)))
  bracket_of (choosing c cs) qs bs = choice (operator_of c) (clause_of c qs bs (others_of cs qs bs))

  pub clause_of : Clause → List Name → List Name → Clauses → Clauses
  clause_of (written xs g op b) qs bs cs = clause (size xs) (statement_of g qs (bs ++ xs)) (statement_of b qs (bs ++ xs)) cs

  pub others_of : Others → List Name → List Name → Clauses
  others_of end qs bs = no_more
  others_of (and_also c cs) qs bs = clause_of c qs bs (others_of cs qs bs)

-- ---------------------------------------------------------------------------------------------
-- Programs.

abbrev pub heads : List Definition → List (Name × ℕ)
heads ds = map (λ d. (d.head, size d.parameters)) ds

-- "one name and arity defined twice"
unfoldable pub twice : List (Name × ℕ) → Bool
twice [] = false
twice (h ∷ hs) = any (λ d. same d.0 h.0 && eqb d.1 h.1) hs || twice hs

abbrev pub definition_faults : List (Name × ℕ) → Definition → List ℕ
definition_faults hs d = fault 3 (ltb most_arguments (size d.parameters)) ++ fault 4 (repeats d.parameters) ++ statement_faults d.statement (record { definitions = hs; bound = some d.parameters; depth = 0 })

unfoldable pub program_faults : List Definition → List ℕ
program_faults ds = fault 3 (ltb most_definitions (size ds)) ++ fault 4 (twice (heads ds)) ++ flat (definition_faults (heads ds)) ds

abbrev pub definition_of : Definition → Def
definition_of d = record { name = d.head; arity = size d.parameters; body = statement_of d.statement [] d.parameters }

abbrev pub checked : {A : Type 0} → List ℕ → A → Result A
checked faults a = elim (least faults) [ none ↦ ok a | some n ↦ refused n ]

-- "1: program over 16,384 bytes; 2: text not of the grammar, name length included, counts and depth aside"
unfoldable pub read_program : List ℕ → Result Program
read_program text =
    if (ltb program_bytes (size text)) (refused 1)
    (elim (tokens text >>= parse_program) [ none ↦ refused 2 | some ds ↦ checked (program_faults ds) (map definition_of ds) ])

-- ---------------------------------------------------------------------------------------------
-- Queries: the names of the variables, by number, and the statement.

pub record Query : Type 0 where
  pub variables : List Name
  pub statement : Stmt

unfoldable pub query_faults : Program → Statement → List ℕ
query_faults P s = fault 3 (ltb most_query_variables (size (query_variables s))) ++ statement_faults s (record { definitions = map (λ d. (d.name, d.arity)) P; bound = none; depth = 0 })

unfoldable pub read_query : Program → List ℕ → Result Query
read_query P text =
    if (ltb query_bytes (size text)) (refused 1)
    (elim (tokens text >>= parse_query) [ none ↦ refused 2 | some s ↦ checked (query_faults P s) (record { variables = query_variables s; statement = statement_of s (query_variables s) [] }) ])
