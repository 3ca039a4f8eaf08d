-- Statements and programs laid out as words. Names stand as numbers: num gives the number of a name. Assumes nothing.
--
--   variable number x          Free x
--   variable level l           Level l
--   true                       Inner True, End
--   fail                       Inner Fail, End
--   x = y                      Inner Eq, x, y, End
--   x = f(y, ..)               Inner App, x, Num of f, y, .., End
--   p(x, ..)                   Inner Call, Num of p, x, .., End
--   a, b                       Inner Comp, words of a, words of b, End
--   n variables hidden in a    Inner Hide, Num n, words of a, End
--   a choice of clauses        Inner AskWait, AskCond or AskCommit, words of each clause, End
--   a clause                   Inner Clause, Num of its hidden variables, words of the guard, words of the body, End
--   a definition               Num of its name, Num of its parameters, words of the body
--   a program                  words of each definition
--
-- Each function takes the words that follow as its last argument.
use Rattle.std.specs.Prelude.{List, [], ◌∷◌, ℕ}
use Rattle.constraint.specs.Constraint.{Con, ctrue, cfail, ceq, capp}
use Rattle.akl.specs.Base.{Name}
use Rattle.akl.specs.Syntax.{Var, number, level, Op, wait, cond, commit, Stmt, atom, call, comp, hide, choice, Clauses, no_more, clause, Def, Program}
use Rattle.mem_words.specs.declared.Word.{Word}
use Rattle.mem_words.specs.declared.Word.TheVariants.{End, Free, Level, Num, Inner}
use Rattle.mem_sorts.specs.declared.Sort.{Sort}
use Rattle.mem_sorts.specs.declared.Sort.TheVariants.{True, Fail, Eq, App, Call, Comp, Hide, Clause, AskWait, AskCond, AskCommit}

unfoldable pub var_word : Var → Word
var_word (number x) = Free x
var_word (level l) = Level l

unfoldable pub vars_words : List Var → List Word → List Word
vars_words [] r = r
vars_words (x ∷ xs) r = var_word x ∷ vars_words xs r

-- what opens a choice
unfoldable pub ask : Op → Sort
ask wait = AskWait
ask cond = AskCond
ask commit = AskCommit

unfoldable pub con_words : (Name → ℕ) → Con Var → List Word → List Word
con_words num ctrue r = Inner True ∷ End ∷ r
con_words num cfail r = Inner Fail ∷ End ∷ r
con_words num (ceq x y) r = Inner Eq ∷ var_word x ∷ var_word y ∷ End ∷ r
con_words num (capp x f ys) r = Inner App ∷ var_word x ∷ Num (num f) ∷ vars_words ys (End ∷ r)

unfoldable mutual
  pub stmt_words : (Name → ℕ) → Stmt → List Word → List Word
  stmt_words num (atom c) r = con_words num c r
  stmt_words num (call p vs) r = Inner Call ∷ Num (num p) ∷ vars_words vs (End ∷ r)
  stmt_words num (comp a b) r = Inner Comp ∷ stmt_words num a (stmt_words num b (End ∷ r))
  stmt_words num (hide n a) r = Inner Hide ∷ Num n ∷ stmt_words num a (End ∷ r)
  stmt_words num (choice op cs) r = Inner (ask op) ∷ clauses_words num cs (End ∷ r)

  pub clauses_words : (Name → ℕ) → Clauses → List Word → List Word
  clauses_words num no_more r = r
  clauses_words num (clause n g b cs) r = Inner Clause ∷ Num n ∷ stmt_words num g (stmt_words num b (End ∷ clauses_words num cs r))

unfoldable pub program_words : (Name → ℕ) → Program → List Word
program_words num [] = []
program_words num (d ∷ ds) = Num (num d.name) ∷ Num d.arity ∷ stmt_words num d.body (program_words num ds)
