-- A text for each statement and each program that passes: bound variables are named by their levels, the others by their
-- numbers, and a bracket that says nothing stands only around a composition that is the left part of one.
use Rattle.std.specs.Prelude.{List, [], ◌∷◌, ◌++◌, map, ℕ, zero, suc, ◌+◌, ◌*◌, ◌/◌, ◌%◌, ◌≤◌, max}
use Rattle.constraint.specs.Constraint.{ctrue, ceq, map_con}
use Rattle.akl.specs.Base.{Name, range}
use Rattle.akl.specs.Syntax.{Var, number, level, Op, wait, cond, commit, Stmt, atom, call, comp, hide, choice, Clauses, no_more, clause, Def, Program}
use Rattle.akl.specs.Token.{Token, name, digits, variable, sign, Mark, open_bracket, close_bracket, comma, full_stop, colon, defines, equals, semicolon, operator}
use Rattle.akl.specs.Grammar.{Statement, single, joined, Simple, constraint, program, bracket, Bracket, plain, choosing, written, Others, end, and_also, Definition}
use Rattle.akl.specs.Parse.{unclaused}

-- ---------------------------------------------------------------------------------------------
-- Names of variables: a capital and 31 digits, the lowest first.

unfoldable pub low_digits : ℕ → ℕ → List ℕ
low_digits zero x = []
low_digits (suc w) x = (48 + x % 10) ∷ low_digits w (x / 10)

unfoldable pub level_name : ℕ → Name
level_name l = 66 ∷ low_digits 31 l

unfoldable pub number_name : ℕ → Name
number_name x = 70 ∷ low_digits 31 x

-- There are so many of each: 10 to the power of 31.
unfoldable pub power : ℕ → ℕ
power zero = 1
power (suc w) = 10 * power w

unfoldable pub most_names : ℕ
most_names = power 31

abbrev pub spell : Var → Name
spell (number x) = number_name x
spell (level l) = level_name l

-- m levels from n
unfoldable pub level_names : ℕ → ℕ → List Name
level_names n m = map level_name (range n m)

unfoldable pub number_names : ℕ → List Name
number_names n = map number_name (range 0 n)

-- ---------------------------------------------------------------------------------------------
-- Concrete syntax.

-- as a simple statement
abbrev pub simply : Statement → Simple
simply (single s) = s
simply (joined s r) = bracket (plain (joined s r))

-- n variables are bound around. Hidden lists that are empty and choices without a clause have no text.
unfoldable mutual
  pub draft : Stmt → ℕ → Statement
  draft (atom c) n = single (constraint (map_con spell c))
  draft (call p xs) n = single (program p (map spell xs))
  draft (comp a b) n = joined (simply (draft a n)) (draft b n)
  draft (hide m a) n = single (bracket (unclaused (level_names n m) (draft a (n + m))))
  draft (choice op cs) n = single (bracket (draft_choice cs op n))

  pub draft_choice : Clauses → Op → ℕ → Bracket
  draft_choice no_more op n = plain (single (constraint ctrue))
  draft_choice (clause m g b cs) op n = choosing (written (level_names n m) (draft g (n + m)) op (draft b (n + m))) (draft_others cs op n)

  pub draft_others : Clauses → Op → ℕ → Others
  draft_others no_more op n = end
  draft_others (clause m g b cs) op n = and_also (written (level_names n m) (draft g (n + m)) op (draft b (n + m))) (draft_others cs op n)

unfoldable pub draft_definition : Def → Definition
draft_definition d = record { head = d.name; parameters = level_names 0 d.arity; statement = draft d.body d.arity }

-- A query whose variables have these names: X = X, Y = Y, .., true.
unfoldable pub naming : List Name → Statement
naming [] = single (constraint ctrue)
naming (x ∷ xs) = joined (constraint (ceq x x)) (naming xs)

-- The most variables that are bound around a part of a statement, of which n are bound around it all.
unfoldable mutual
  pub widest : Stmt → ℕ → ℕ
  widest (atom c) n = n
  widest (call p xs) n = n
  widest (comp a b) n = max (widest a n) (widest b n)
  widest (hide m a) n = widest a (n + m)
  widest (choice op cs) n = clauses_widest cs n

  pub clauses_widest : Clauses → ℕ → ℕ
  clauses_widest no_more n = n
  clauses_widest (clause m g b cs) n = max (max (widest g (n + m)) (widest b (n + m))) (clauses_widest cs n)

unfoldable pub program_widest : Program → ℕ
program_widest [] = 0
program_widest (d ∷ ds) = max (widest d.body d.arity) (program_widest ds)

-- No hidden list is longer than 2 to the power of 24. Names of 32 bytes are many but not without end, so that some bound has to
-- be put; in a store the length of a list is the value of a word, of two bytes.
abbrev pub most_hidden : ℕ
most_hidden = 16777216

abbrev mutual
  pub ListsFit : Stmt → Type 0
  ListsFit (atom c) = Unit {0}
  ListsFit (call p xs) = Unit {0}
  ListsFit (comp a b) = ListsFit a × ListsFit b
  ListsFit (hide m a) = (m ≤ most_hidden) × ListsFit a
  ListsFit (choice op cs) = ClauseListsFit cs

  pub ClauseListsFit : Clauses → Type 0
  ClauseListsFit no_more = Unit {0}
  ClauseListsFit (clause m g b cs) = (m ≤ most_hidden) × ListsFit g × ListsFit b × ClauseListsFit cs

abbrev pub ProgramListsFit : Program → Type 0
ProgramListsFit [] = Unit {0}
ProgramListsFit (d ∷ ds) = ListsFit d.body × ProgramListsFit ds

-- ---------------------------------------------------------------------------------------------
-- Bytes: every token, and a space.

abbrev pub mark_bytes : Mark → List ℕ
mark_bytes open_bracket = 40 ∷ []
mark_bytes close_bracket = 41 ∷ []
mark_bytes comma = 44 ∷ []
mark_bytes full_stop = 46 ∷ []
mark_bytes colon = 58 ∷ []
mark_bytes defines = 58 ∷ 61 ∷ []
mark_bytes equals = 61 ∷ []
mark_bytes semicolon = 59 ∷ []
mark_bytes (operator wait) = 63 ∷ []
mark_bytes (operator cond) = 45 ∷ 62 ∷ []
mark_bytes (operator commit) = 124 ∷ []

abbrev pub token_bytes : Token → List ℕ
token_bytes (name w) = w
token_bytes (digits w) = w
token_bytes (variable w) = w
token_bytes (sign m) = mark_bytes m

unfoldable pub text_of : List Token → List ℕ
text_of [] = []
text_of (t ∷ ts) = token_bytes t ++ 32 ∷ text_of ts
