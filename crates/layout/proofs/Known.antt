-- The words of a statement whose names are spelt are numbered: so what Only.antt asks of words holds of every layout.
use mathlib.Core.Path.{ap}
use mathlib.Core.List.{List, [], ◌∷◌}
use Prim.Native.Nat.{ℕ}
use Rattle.constraint.specs.Constraint.{Con, ctrue, cfail, ceq, capp}
use Rattle.akl.specs.Base.{Name}
use Rattle.akl.specs.Syntax.{Var, number, level, wait, cond, commit, Stmt, atom, call, comp, hide, choice, Clauses, no_more, clause, Def, Program}
use Rattle.mem_words.specs.declared.Word.{Word}
use Rattle.mem_words.specs.declared.Word.TheVariants.{End, Num}
use Rattle.layout.specs.Layout.{var_word, vars_words, ask, con_words, stmt_words, clauses_words, program_words}
use Rattle.layout.specs.Tables.{SpeltCon, Spelt, SpeltClauses, SpeltProgram, NamesAt, Heads, Numbered}

-- variables are no names
var_known : (num : Name → ℕ) (spell : ℕ → Name) (x : Var) (r : List Word) → NamesAt num spell (var_word x) r
unfolding var_word
var_known num spell (number x) r = tt
var_known num spell (level l) r = tt

vars_known : (num : Name → ℕ) (spell : ℕ → Name) (xs : List Var) (r : List Word) → Numbered num spell r → Numbered num spell (vars_words xs r)
unfolding vars_words
vars_known num spell [] r h = h
vars_known num spell (x ∷ xs) r h = (var_known num spell x (vars_words xs r), vars_known num spell xs r h)

-- no number comes first among variables up to an End, or in a statement
vars_heads : (num : Name → ℕ) (spell : ℕ → Name) (i : ℕ) (xs : List Var) (r : List Word) → Heads num spell i (vars_words xs (End ∷ r))
unfolding vars_words var_word
vars_heads num spell i [] r = tt
vars_heads num spell i (number x ∷ xs) r = tt
vars_heads num spell i (level l ∷ xs) r = tt

stmt_heads : (num : Name → ℕ) (spell : ℕ → Name) (i : ℕ) (s : Stmt) (r : List Word) → Heads num spell i (stmt_words num s r)
unfolding stmt_words con_words
stmt_heads num spell i (atom ctrue) r = tt
stmt_heads num spell i (atom cfail) r = tt
stmt_heads num spell i (atom (ceq x y)) r = tt
stmt_heads num spell i (atom (capp x f ys)) r = tt
stmt_heads num spell i (call p xs) r = tt
stmt_heads num spell i (comp a b) r = tt
stmt_heads num spell i (hide n a) r = tt
stmt_heads num spell i (choice op cs) r = tt

con_known : (num : Name → ℕ) (spell : ℕ → Name) (c : Con Var) (r : List Word) → SpeltCon num spell c → Numbered num spell r → Numbered num spell (con_words num c r)
unfolding con_words
con_known num spell ctrue r h k = (tt, (tt, k))
con_known num spell cfail r h k = (tt, (tt, k))
con_known num spell (ceq x y) r h k = (tt, (var_known num spell x (var_word y ∷ End ∷ r), (var_known num spell y (End ∷ r), (tt, k))))
con_known num spell (capp x f ys) r h k = (ap num h, (var_known num spell x (Num (num f) ∷ vars_words ys (End ∷ r)), (vars_heads num spell (num f) ys r, vars_known num spell ys (End ∷ r) (tt, k))))

mutual
  unfolding stmt_words ask

  pub stmt_known : (num : Name → ℕ) (spell : ℕ → Name) (s : Stmt) (r : List Word) → Spelt num spell s → Numbered num spell r → Numbered num spell (stmt_words num s r)
  stmt_known num spell (atom c) r h k = con_known num spell c r h k
  stmt_known num spell (call p xs) r h k = (ap num h, (vars_heads num spell (num p) xs r, vars_known num spell xs (End ∷ r) (tt, k)))
  stmt_known num spell (comp a b) r h k = (tt, stmt_known num spell a (stmt_words num b (End ∷ r)) h.0 (stmt_known num spell b (End ∷ r) h.1 (tt, k)))
  stmt_known num spell (hide n a) r h k = (tt, (stmt_heads num spell n a (End ∷ r), stmt_known num spell a (End ∷ r) h (tt, k)))
  stmt_known num spell (choice wait cs) r h k = (tt, clauses_known num spell cs (End ∷ r) h (tt, k))
  stmt_known num spell (choice cond cs) r h k = (tt, clauses_known num spell cs (End ∷ r) h (tt, k))
  stmt_known num spell (choice commit cs) r h k = (tt, clauses_known num spell cs (End ∷ r) h (tt, k))

  clauses_known : (num : Name → ℕ) (spell : ℕ → Name) (cs : Clauses) (r : List Word) → SpeltClauses num spell cs → Numbered num spell r → Numbered num spell (clauses_words num cs r)
  clauses_known num spell no_more r h k = k
  clauses_known num spell (clause n g b cs) r h k = (
    tt,
    (
      stmt_heads num spell n g (stmt_words num b (End ∷ clauses_words num cs r)),
      stmt_known num spell g (stmt_words num b (End ∷ clauses_words num cs r)) h.0 (stmt_known num spell b (End ∷ clauses_words num cs r) h.1 (tt, clauses_known num spell cs r h.2 k)),
    ),
  )

pub program_known : (num : Name → ℕ) (spell : ℕ → Name) (P : Program) → SpeltProgram num spell P → Numbered num spell (program_words num P)
unfolding program_words
program_known num spell [] h = tt
program_known num spell (d ∷ ds) h = (ap num h.0, (stmt_heads num spell d.arity d.body (program_words num ds), stmt_known num spell d.body (program_words num ds) h.1 (program_known num spell ds h.2)))
