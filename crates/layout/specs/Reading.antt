-- Words read back as statements and programs; nothing is read from words that are no layout. spell gives the name of a number.
-- Assumes nothing.
use Rattle.std.specs.Prelude.{List, [], ◌∷◌, ℕ, zero, suc, length}
use Rattle.std.proofs.Math.Option.{Option, some, none}
use Rattle.constraint.specs.Constraint.{ctrue, cfail, ceq, capp}
use Rattle.akl.specs.Base.{Name, ◌>>=◌}
use Rattle.akl.specs.Syntax.{Var, number, level, wait, cond, commit, Stmt, atom, call, comp, hide, choice, Clauses, no_more, clause, Def, Program}
use Rattle.mem_words.specs.declared.Word.{Word}
use Rattle.mem_words.specs.declared.Word.TheVariants.{End, Free, Level, Num, Place, Inner, Bad}
use Rattle.mem_sorts.specs.declared.Sort.{Sort}
use Rattle.mem_sorts.specs.declared.Sort.TheVariants.{Locals, Store, True, Fail, Eq, App, Call, Comp, Hide, Clause, AskWait, AskCond, AskCommit}

-- Something read, and the words behind it.
abbrev pub Read : Type 0 → Type 0
Read A = Option (A × List Word)

-- the words behind an End
unfoldable pub an_end : List Word → Option (List Word)
an_end [] = none
an_end (End ∷ r) = some r
an_end (Free x ∷ r) = none
an_end (Level l ∷ r) = none
an_end (Num n ∷ r) = none
an_end (Place k ∷ r) = none
an_end (Inner s ∷ r) = none
an_end (Bad ∷ r) = none

unfoldable pub a_number : List Word → Read ℕ
a_number [] = none
a_number (End ∷ r) = none
a_number (Free x ∷ r) = none
a_number (Level l ∷ r) = none
a_number (Num n ∷ r) = some (n, r)
a_number (Place k ∷ r) = none
a_number (Inner s ∷ r) = none
a_number (Bad ∷ r) = none

unfoldable pub a_var : List Word → Read Var
a_var [] = none
a_var (End ∷ r) = none
a_var (Free x ∷ r) = some (number x, r)
a_var (Level l ∷ r) = some (level l, r)
a_var (Num n ∷ r) = none
a_var (Place k ∷ r) = none
a_var (Inner s ∷ r) = none
a_var (Bad ∷ r) = none

unfoldable pub an_opening : List Word → Read Sort
an_opening [] = none
an_opening (End ∷ r) = none
an_opening (Free x ∷ r) = none
an_opening (Level l ∷ r) = none
an_opening (Num n ∷ r) = none
an_opening (Place k ∷ r) = none
an_opening (Inner s ∷ r) = some (s, r)
an_opening (Bad ∷ r) = none

-- variables up to an End, and the words behind it
unfoldable pub vars_from : List Word → Read (List Var)
vars_from [] = none
vars_from (End ∷ r) = some ([], r)
vars_from (Free x ∷ r) = vars_from r >>= λ xs. some (number x ∷ xs.0, xs.1)
vars_from (Level l ∷ r) = vars_from r >>= λ xs. some (level l ∷ xs.0, xs.1)
vars_from (Num n ∷ r) = none
vars_from (Place k ∷ r) = none
vars_from (Inner s ∷ r) = none
vars_from (Bad ∷ r) = none

-- The statement whose first word opens the sort k and is passed; st and cl read the statements and clauses in it.
unfoldable pub inside : (ℕ → Name) → (List Word → Read Stmt) → (List Word → Read Clauses) → Sort → List Word → Read Stmt
inside spell st cl Locals r = none
inside spell st cl Store r = none
inside spell st cl True r = an_end r >>= λ u. some (atom ctrue, u)
inside spell st cl Fail r = an_end r >>= λ u. some (atom cfail, u)
inside spell st cl Eq r = a_var r >>= λ x. a_var x.1 >>= λ y. an_end y.1 >>= λ u. some (atom (ceq x.0 y.0), u)
inside spell st cl App r = a_var r >>= λ x. a_number x.1 >>= λ f. vars_from f.1 >>= λ ys. some (atom (capp x.0 (spell f.0) ys.0), ys.1)
inside spell st cl Call r = a_number r >>= λ p. vars_from p.1 >>= λ xs. some (call (spell p.0) xs.0, xs.1)
inside spell st cl Comp r = st r >>= λ a. st a.1 >>= λ b. an_end b.1 >>= λ u. some (comp a.0 b.0, u)
inside spell st cl Hide r = a_number r >>= λ n. st n.1 >>= λ a. an_end a.1 >>= λ u. some (hide n.0 a.0, u)
inside spell st cl Clause r = none
inside spell st cl AskWait r = cl r >>= λ cs. some (choice wait cs.0, cs.1)
inside spell st cl AskCond r = cl r >>= λ cs. some (choice cond cs.0, cs.1)
inside spell st cl AskCommit r = cl r >>= λ cs. some (choice commit cs.0, cs.1)

-- a clause, its first word passed, and the clauses after it
unfoldable pub a_clause : (List Word → Read Stmt) → (List Word → Read Clauses) → Sort → List Word → Read Clauses
a_clause st cl Locals r = none
a_clause st cl Store r = none
a_clause st cl True r = none
a_clause st cl Fail r = none
a_clause st cl Eq r = none
a_clause st cl App r = none
a_clause st cl Call r = none
a_clause st cl Comp r = none
a_clause st cl Hide r = none
a_clause st cl Clause r = a_number r >>= λ n. st n.1 >>= λ g. st g.1 >>= λ b. an_end b.1 >>= λ u. cl u >>= λ cs. some (clause n.0 g.0 b.0 cs.0, cs.1)
a_clause st cl AskWait r = none
a_clause st cl AskCond r = none
a_clause st cl AskCommit r = none

-- clauses up to an End, and the words behind it
unfoldable pub some_clauses : (List Word → Read Stmt) → (List Word → Read Clauses) → List Word → Read Clauses
some_clauses st cl [] = none
some_clauses st cl (End ∷ r) = some (no_more, r)
some_clauses st cl (Free x ∷ r) = none
some_clauses st cl (Level l ∷ r) = none
some_clauses st cl (Num n ∷ r) = none
some_clauses st cl (Place k ∷ r) = none
some_clauses st cl (Inner s ∷ r) = a_clause st cl s r
some_clauses st cl (Bad ∷ r) = none

-- The number n bounds the depth of calls; each call passes a word, so that the number of words is enough.
unfoldable mutual
  pub stmt_from : (ℕ → Name) → ℕ → List Word → Read Stmt
  stmt_from spell zero ws = none
  stmt_from spell (suc n) ws = an_opening ws >>= λ k. inside spell (λ u. stmt_from spell n u) (λ u. clauses_from spell n u) k.0 k.1

  pub clauses_from : (ℕ → Name) → ℕ → List Word → Read Clauses
  clauses_from spell zero ws = none
  clauses_from spell (suc n) ws = some_clauses (λ u. stmt_from spell n u) (λ u. clauses_from spell n u) ws

-- definitions up to the end of the words
unfoldable pub program_from : (ℕ → Name) → ℕ → List Word → Option Program
program_from spell zero ws = none
program_from spell (suc n) [] = some []
program_from spell (suc n) (w ∷ ws) =
    a_number (w ∷ ws) >>= λ p.
    a_number p.1 >>= λ k.
    stmt_from spell n k.1 >>= λ s.
    program_from spell n s.1 >>= λ ds.
    some (record { name = spell p.0; arity = k.0; body = s.0 } ∷ ds)

-- with calls enough for the words
unfoldable pub read_stmt : (ℕ → Name) → List Word → Read Stmt
read_stmt spell ws = stmt_from spell (length ws) ws

unfoldable pub read_program : (ℕ → Name) → List Word → Option Program
read_program spell ws = program_from spell (suc (length ws)) ws
