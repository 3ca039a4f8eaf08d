-- A layout reads back as what was laid out, with the words behind it left.
use mathlib.Core.Path.{◌≡◌, refl, ap, ◌∙◌}
use mathlib.Core.List.{List, [], ◌∷◌}
use mathlib.Core.Option.{Option, some}
use Prim.Native.Nat.{ℕ, zero, suc, ◌+◌, ◌≤◌}
use native.Mathlib.Omega.{arith}
use lib.ListN.{length}
use Rattle.constraint.specs.Constraint.{Con, ctrue, cfail, ceq, capp}
use Rattle.akl.specs.Base.{Name, ◌>>=◌}
use Rattle.akl.specs.Syntax.{Var, number, level, Op, wait, cond, commit, Stmt, atom, call, comp, hide, choice, Clauses, no_more, clause, Def, Program}
use Rattle.mem_words.specs.declared.Word.{Word}
use Rattle.mem_words.specs.declared.Word.TheVariants.{End, Num, Inner}
use Rattle.layout.specs.Layout.{var_word, vars_words, ask, con_words, stmt_words, clauses_words, program_words}
use Rattle.layout.specs.Reading.{an_end, a_number, a_var, an_opening, vars_from, inside, a_clause, some_clauses, stmt_from, clauses_from, program_from, read_stmt, read_program}
use Rattle.layout.specs.Tables.{SpeltCon, Spelt, SpeltClauses, SpeltProgram, calls, clauses_calls, program_calls}

-- what reads a goes on with a
read_on : {A B : Type 0} (o : Option A) (a : A) (f : A → Option B) → o ≡ some a → (o >>= f) ≡ f a
read_on o a f e = ap (λ (x : Option _). x >>= f) e

var_read : (x : Var) (r : List Word) → a_var (var_word x ∷ r) ≡ some (x, r)
unfolding a_var var_word
var_read (number x) r = refl
var_read (level l) r = refl

pub vars_read : (xs : List Var) (r : List Word) → vars_from (vars_words xs (End ∷ r)) ≡ some (xs, r)
unfolding vars_from vars_words var_word
vars_read [] r = refl
vars_read (number x ∷ xs) r = read_on (vars_from (vars_words xs (End ∷ r))) (xs, r) (λ ys. some (number x ∷ ys.0, ys.1)) (vars_read xs r)
vars_read (level l ∷ xs) r = read_on (vars_from (vars_words xs (End ∷ r))) (xs, r) (λ ys. some (level l ∷ ys.0, ys.1)) (vars_read xs r)

con_read : (num : Name → ℕ) (spell : ℕ → Name) (c : Con Var) (n : ℕ) (r : List Word) → SpeltCon num spell c → stmt_from spell (suc n) (con_words num c r) ≡ some (atom c, r)
unfolding stmt_from inside an_opening an_end a_number con_words
con_read num spell ctrue n r h = refl
con_read num spell cfail n r h = refl
con_read num spell (ceq x y) n r h =
    read_on (a_var (var_word x ∷ var_word y ∷ End ∷ r)) (x, var_word y ∷ End ∷ r) _ (var_read x (var_word y ∷ End ∷ r))
    ∙ read_on (a_var (var_word y ∷ End ∷ r)) (y, End ∷ r) _ (var_read y (End ∷ r))
con_read num spell (capp x f ys) n r h =
    read_on (a_var (var_word x ∷ Num (num f) ∷ vars_words ys (End ∷ r))) (x, Num (num f) ∷ vars_words ys (End ∷ r)) _ (var_read x (Num (num f) ∷ vars_words ys (End ∷ r)))
    ∙ read_on (vars_from (vars_words ys (End ∷ r))) (ys, r) _ (vars_read ys r)
    ∙ ap (λ (g : Name). some (atom (capp x g ys), r)) h

choice_read : (spell : ℕ → Name) (op : Op) (cs : Clauses) (n : ℕ) (ws r : List Word) → clauses_from spell n ws ≡ some (cs, r) → stmt_from spell (suc n) (Inner (ask op) ∷ ws) ≡ some (choice op cs, r)
unfolding stmt_from inside an_opening ask
choice_read spell wait cs n ws r e = read_on (clauses_from spell n ws) (cs, r) _ e
choice_read spell cond cs n ws r e = read_on (clauses_from spell n ws) (cs, r) _ e
choice_read spell commit cs n ws r e = read_on (clauses_from spell n ws) (cs, r) _ e

-- Calls enough for the statement suffice, whatever follows.
mutual
  unfolding stmt_from inside an_opening an_end a_number some_clauses a_clause stmt_words calls

  pub stmt_read : (num : Name → ℕ) (spell : ℕ → Name) (s : Stmt) (n : ℕ) (r : List Word) → calls s ≤ n → Spelt num spell s → stmt_from spell n (stmt_words num s r) ≡ some (s, r)
  stmt_read num spell (atom c) zero r b h = absurd (omega arith)
  stmt_read num spell (atom c) (suc n) r b h = con_read num spell c n r h
  stmt_read num spell (call p xs) zero r b h = absurd (omega arith)
  stmt_read num spell (call p xs) (suc n) r b h =
      read_on (vars_from (vars_words xs (End ∷ r))) (xs, r) _ (vars_read xs r)
      ∙ ap (λ (q : Name). some (call q xs, r)) h
  stmt_read num spell (comp x y) zero r b h = absurd (omega arith)
  stmt_read num spell (comp x y) (suc n) r b h =
      read_on (stmt_from spell n (stmt_words num x (stmt_words num y (End ∷ r)))) (x, stmt_words num y (End ∷ r)) _ (stmt_read num spell x n (stmt_words num y (End ∷ r)) (omega arith) h.0)
      ∙ read_on (stmt_from spell n (stmt_words num y (End ∷ r))) (y, End ∷ r) _ (stmt_read num spell y n (End ∷ r) (omega arith) h.1)
  stmt_read num spell (hide k x) zero r b h = absurd (omega arith)
  stmt_read num spell (hide k x) (suc n) r b h = read_on (stmt_from spell n (stmt_words num x (End ∷ r))) (x, End ∷ r) _ (stmt_read num spell x n (End ∷ r) (omega arith) h)
  stmt_read num spell (choice op cs) zero r b h = absurd (omega arith)
  stmt_read num spell (choice op cs) (suc n) r b h = choice_read spell op cs n (clauses_words num cs (End ∷ r)) r (clauses_read num spell cs n r (omega arith) h)

  pub clauses_read : (num : Name → ℕ) (spell : ℕ → Name) (cs : Clauses) (n : ℕ) (r : List Word) → clauses_calls cs ≤ n → SpeltClauses num spell cs → clauses_from spell n (clauses_words num cs (End ∷ r)) ≡ some (cs, r)
  clauses_read num spell no_more zero r b h = absurd (omega arith)
  clauses_read num spell no_more (suc n) r b h = refl
  clauses_read num spell (clause k x y cs) zero r b h = absurd (omega arith)
  clauses_read num spell (clause k x y cs) (suc n) r b h =
      read_on (stmt_from spell n (stmt_words num x (stmt_words num y (End ∷ clauses_words num cs (End ∷ r))))) (x, stmt_words num y (End ∷ clauses_words num cs (End ∷ r))) _ (stmt_read num spell x n (stmt_words num y (End ∷ clauses_words num cs (End ∷ r))) (omega arith) h.0)
      ∙ read_on (stmt_from spell n (stmt_words num y (End ∷ clauses_words num cs (End ∷ r)))) (y, End ∷ clauses_words num cs (End ∷ r)) _ (stmt_read num spell y n (End ∷ clauses_words num cs (End ∷ r)) (omega arith) h.1)
      ∙ read_on (clauses_from spell n (clauses_words num cs (End ∷ r))) (cs, r) _ (clauses_read num spell cs n r (omega arith) h.2)

pub program_read : (num : Name → ℕ) (spell : ℕ → Name) (P : Program) (n : ℕ) → program_calls P ≤ n → SpeltProgram num spell P → program_from spell n (program_words num P) ≡ some P
unfolding program_from program_words program_calls a_number
program_read num spell [] zero b h = absurd (omega arith)
program_read num spell [] (suc n) b h = refl
program_read num spell (d ∷ ds) zero b h = absurd (omega arith)
program_read num spell (d ∷ ds) (suc n) b h =
    read_on (stmt_from spell n (stmt_words num d.body (program_words num ds))) (d.body, program_words num ds) _ (stmt_read num spell d.body n (program_words num ds) (omega arith) h.1)
    ∙ read_on (program_from spell n (program_words num ds)) ds _ (program_read num spell ds n (omega arith) h.2)
    ∙ ap (λ (p : Name). some (record { name = p; arity = d.arity; body = d.body } ∷ ds)) h.0

-- ---------------------------------------------------------------------------------------------
-- The number of words is enough.

vars_long : (xs : List Var) (r : List Word) → length r ≤ length (vars_words xs r)
unfolding vars_words
vars_long [] r = omega arith
vars_long (x ∷ xs) r = omega (arith, vars_long xs r)

con_long : (num : Name → ℕ) (c : Con Var) (r : List Word) → suc (length r) ≤ length (con_words num c r)
unfolding con_words
con_long num ctrue r = omega arith
con_long num cfail r = omega arith
con_long num (ceq x y) r = omega arith
con_long num (capp x f ys) r = omega (arith, vars_long ys (End ∷ r))

mutual
  unfolding stmt_words calls

  pub stmt_long : (num : Name → ℕ) (s : Stmt) (r : List Word) → calls s + length r ≤ length (stmt_words num s r)
  stmt_long num (atom c) r = omega (arith, con_long num c r)
  stmt_long num (call p xs) r = omega (arith, vars_long xs (End ∷ r))
  stmt_long num (comp a b) r = omega (arith, stmt_long num a (stmt_words num b (End ∷ r)), stmt_long num b (End ∷ r))
  stmt_long num (hide n a) r = omega (arith, stmt_long num a (End ∷ r))
  stmt_long num (choice op cs) r = omega (arith, clauses_long num cs (End ∷ r))

  pub clauses_long : (num : Name → ℕ) (cs : Clauses) (r : List Word) → clauses_calls cs + length r ≤ suc (length (clauses_words num cs r))
  clauses_long num no_more r = omega arith
  clauses_long num (clause n g b cs) r = omega (arith, stmt_long num g (stmt_words num b (End ∷ clauses_words num cs r)), stmt_long num b (End ∷ clauses_words num cs r), clauses_long num cs r)

pub program_long : (num : Name → ℕ) (P : Program) → program_calls P ≤ suc (length (program_words num P))
unfolding program_words program_calls
program_long num [] = omega arith
program_long num (d ∷ ds) = omega (arith, stmt_long num d.body (program_words num ds), program_long num ds)

-- The readers without a bound.
pub stmt_back : (num : Name → ℕ) (spell : ℕ → Name) (s : Stmt) (r : List Word) → Spelt num spell s → read_stmt spell (stmt_words num s r) ≡ some (s, r)
unfolding read_stmt
stmt_back num spell s r h = stmt_read num spell s (length (stmt_words num s r)) r (omega (arith, stmt_long num s r)) h

pub program_back : (num : Name → ℕ) (spell : ℕ → Name) (P : Program) → SpeltProgram num spell P → read_program spell (program_words num P) ≡ some P
unfolding read_program
program_back num spell P h = program_read num spell P (suc (length (program_words num P))) (program_long num P) h
