-- What a table of names, num one way and spell the other, must know of a statement's names and of the numbers in a list of words.
-- Assumes nothing.
use Rattle.std.specs.Prelude.{◌≡◌, List, [], ◌∷◌, ℕ, suc, ◌+◌}
use Rattle.constraint.specs.Constraint.{Con, ctrue, cfail, ceq, capp}
use Rattle.akl.specs.Base.{Name}
use Rattle.akl.specs.Syntax.{Var, Stmt, atom, call, comp, hide, choice, Clauses, no_more, clause, Def, Program}
use Rattle.mem_words.specs.declared.Word.{Word}
use Rattle.mem_words.specs.declared.Word.TheVariants.{End, Free, Level, Num, Place, Inner, Bad}
use Rattle.mem_sorts.specs.declared.Sort.{Sort}
use Rattle.mem_sorts.specs.declared.Sort.TheVariants.{Locals, Store, True, Fail, Eq, App, Call, Comp, Hide, Clause, AskWait, AskCond, AskCommit}

-- Each name in it is the name of its number.
abbrev pub SpeltCon : (Name → ℕ) → (ℕ → Name) → Con Var → Type 0
SpeltCon num spell ctrue = Unit {0}
SpeltCon num spell cfail = Unit {0}
SpeltCon num spell (ceq x y) = Unit {0}
SpeltCon num spell (capp x f ys) = spell (num f) ≡ f

abbrev mutual
  pub Spelt : (Name → ℕ) → (ℕ → Name) → Stmt → Type 0
  Spelt num spell (atom c) = SpeltCon num spell c
  Spelt num spell (call p vs) = spell (num p) ≡ p
  Spelt num spell (comp a b) = Spelt num spell a × Spelt num spell b
  Spelt num spell (hide n a) = Spelt num spell a
  Spelt num spell (choice op cs) = SpeltClauses num spell cs

  pub SpeltClauses : (Name → ℕ) → (ℕ → Name) → Clauses → Type 0
  SpeltClauses num spell no_more = Unit {0}
  SpeltClauses num spell (clause n g b cs) = Spelt num spell g × Spelt num spell b × SpeltClauses num spell cs

abbrev pub SpeltProgram : (Name → ℕ) → (ℕ → Name) → Program → Type 0
SpeltProgram num spell [] = Unit {0}
SpeltProgram num spell (d ∷ ds) = (spell (num d.name) ≡ d.name) × Spelt num spell d.body × SpeltProgram num spell ds

-- A number that comes next is the number of its name.
abbrev pub Names : (Name → ℕ) → (ℕ → Name) → List Word → Type 0
Names num spell [] = Unit {0}
Names num spell (End ∷ r) = Unit {0}
Names num spell (Free x ∷ r) = Unit {0}
Names num spell (Level l ∷ r) = Unit {0}
Names num spell (Num i ∷ r) = num (spell i) ≡ i
Names num spell (Place k ∷ r) = Unit {0}
Names num spell (Inner s ∷ r) = Unit {0}
Names num spell (Bad ∷ r) = Unit {0}

-- the same behind the next word
abbrev pub SecondNames : (Name → ℕ) → (ℕ → Name) → List Word → Type 0
SecondNames num spell [] = Unit {0}
SecondNames num spell (w ∷ r) = Names num spell r

-- behind the opening of a sort: a call's number comes next, that of an application second
abbrev pub NamesIn : (Name → ℕ) → (ℕ → Name) → Sort → List Word → Type 0
NamesIn num spell Locals r = Unit {0}
NamesIn num spell Store r = Unit {0}
NamesIn num spell True r = Unit {0}
NamesIn num spell Fail r = Unit {0}
NamesIn num spell Eq r = Unit {0}
NamesIn num spell App r = SecondNames num spell r
NamesIn num spell Call r = Names num spell r
NamesIn num spell Comp r = Unit {0}
NamesIn num spell Hide r = Unit {0}
NamesIn num spell Clause r = Unit {0}
NamesIn num spell AskWait r = Unit {0}
NamesIn num spell AskCond r = Unit {0}
NamesIn num spell AskCommit r = Unit {0}

-- a number with a number behind it is that of a definition
abbrev pub Heads : (Name → ℕ) → (ℕ → Name) → ℕ → List Word → Type 0
Heads num spell i [] = Unit {0}
Heads num spell i (End ∷ r) = Unit {0}
Heads num spell i (Free x ∷ r) = Unit {0}
Heads num spell i (Level l ∷ r) = Unit {0}
Heads num spell i (Num n ∷ r) = num (spell i) ≡ i
Heads num spell i (Place k ∷ r) = Unit {0}
Heads num spell i (Inner s ∷ r) = Unit {0}
Heads num spell i (Bad ∷ r) = Unit {0}

abbrev pub NamesAt : (Name → ℕ) → (ℕ → Name) → Word → List Word → Type 0
NamesAt num spell End r = Unit {0}
NamesAt num spell (Free x) r = Unit {0}
NamesAt num spell (Level l) r = Unit {0}
NamesAt num spell (Num i) r = Heads num spell i r
NamesAt num spell (Place k) r = Unit {0}
NamesAt num spell (Inner s) r = NamesIn num spell s r
NamesAt num spell Bad r = Unit {0}

-- Each number that stands where a name's number stands is the number of its name. Of other numbers nothing is said.
abbrev pub Numbered : (Name → ℕ) → (ℕ → Name) → List Word → Type 0
Numbered num spell [] = Unit {0}
Numbered num spell (w ∷ r) = NamesAt num spell w r × Numbered num spell r

-- How many calls are enough to read it back.
unfoldable mutual
  pub calls : Stmt → ℕ
  calls (atom c) = 1
  calls (call p vs) = 1
  calls (comp a b) = suc (calls a + calls b)
  calls (hide n a) = suc (calls a)
  calls (choice op cs) = suc (clauses_calls cs)

  pub clauses_calls : Clauses → ℕ
  clauses_calls no_more = 1
  clauses_calls (clause n g b cs) = suc (calls g + calls b + clauses_calls cs)

unfoldable pub program_calls : Program → ℕ
program_calls [] = 1
program_calls (d ∷ ds) = suc (calls d.body + program_calls ds)
