-- "would pass 2 to 7": some text, of any size, reads as it. proofs/WouldPass.antt shows that the tests of well-formedness
-- (akl: WellFormed) say this of a store's program, of the names of its query's variables and of its statements.
use Rattle.std.specs.Prelude.{◌≡◌, List, [], ◌∷◌, map, not, ℕ, T}
use Rattle.std.proofs.Math.Option.{some, none}
use Rattle.constraint.specs.Constraint.{Con, Store}
use Rattle.akl.specs.Base.{Name, size, repeats, all, ◌>>=◌, Result, refused, ok}
use Rattle.akl.specs.Syntax.{Var, Stmt, atom, Def, Program}
use Rattle.akl.specs.Token.{tokens}
use Rattle.akl.specs.Parse.{parse_query, parse_program}
use Rattle.akl.specs.Reader.{Around, statement_faults, query_variables, statement_of, program_faults, definition_of, checked, Query, query_faults}
use Rattle.akl.specs.Rules.{stored}
use Rattle.akl.specs.Configuration.{Kind, Node, or, and, stmt, choice_box, guard, Nodes, nil, cons}
use Rattle.akl.specs.WellFormed.{spelled_variable, numbers}
use Rattle.theory.specs.Scope.{Below}

-- What a program text and a query text read as, their size aside: one of the refusals 2 to 7, or what they stand for.
unfoldable pub program_of : List ℕ → Result Program
program_of text = elim (tokens text >>= parse_program) [ none ↦ refused 2 | some ds ↦ checked (program_faults ds) (map definition_of ds) ]

unfoldable pub query_of : Program → List ℕ → Result Query
query_of P text = elim (tokens text >>= parse_query) [ none ↦ refused 2 | some s ↦ checked (query_faults P s) (record { variables = query_variables s; statement = statement_of s (query_variables s) [] }) ]

-- A statement of a configuration is read like a query's, but it may have any number of variables: xs are their names, by
-- number. Around it are the program's definitions, no names that bind, and no bracket.
abbrev pub around_statement : Program → Around
around_statement P = record { definitions = map (λ (d : Def). (d.name, d.arity)) P; bound = none; depth = 0 }

unfoldable pub statement_in : Program → List Name → List ℕ → Result Stmt
statement_in P xs text = elim (tokens text >>= parse_query) [ none ↦ refused 2 | some s ↦ checked (statement_faults s (around_statement P)) (statement_of s xs []) ]

-- Some text reads as the program.
abbrev pub ProgramText : Program → Type 0
ProgramText P = (text : List ℕ) × (program_of text ≡ ok P)

-- Some text reads as a query with variables of these names.
abbrev pub NamesText : Program → List Name → Type 0
NamesText P xs = (text : List ℕ) × (q : Query) × (query_of P text ≡ ok q) × (q.variables ≡ xs)

-- Some text reads as the statement, with some names for its variables, all different.
abbrev pub StatementText : Program → Stmt → Type 0
StatementText P s = (xs : List Name) × T (not (repeats xs)) × T (all spelled_variable xs) × Below (numbers s) (size xs) × (text : List ℕ) × (statement_in P xs text ≡ ok s)

-- A stored constraint: what rule 1 stores for some atom of a text.
abbrev pub StoredText : Program → Con ℕ → Type 0
StoredText P c = (a : Con Var) × StatementText P (atom a) × (stored a ≡ c ∷ [])

abbrev pub StoreText : Program → Store → Type 0
StoreText P [] = Unit {0}
StoreText P (c ∷ σ) = StoredText P c × StoreText P σ

-- Every statement of a configuration.
abbrev mutual
  pub StatementsText : {k : Kind} → Node k → Program → Type 0
  StatementsText (or ns) P = StatementsTextAll ns P
  StatementsText (and vs σ ms) P = StoreText P σ × StatementsTextAll ms P
  StatementsText (stmt s) P = StatementText P s
  StatementsText (choice_box op gs) P = StatementsTextAll gs P
  StatementsText (guard g b) P = StatementsText g P × StatementText P b

  pub StatementsTextAll : {k : Kind} → Nodes k → Program → Type 0
  StatementsTextAll nil P = Unit {0}
  StatementsTextAll (cons n ns) P = StatementsText n P × StatementsTextAll ns P
