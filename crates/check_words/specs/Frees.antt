-- What words say of variables by themselves: the variables that a run of words names, and that no number is too high. Assumes nothing.
use Rattle.std.specs.Prelude.{List, [], ◌∷◌, Bool, true, false, ◌&&◌, ℕ, suc, leb, ltb}
use Rattle.akl.specs.Base.{all}
use Rattle.mem_words.specs.declared.Word.{Word}
use Rattle.mem_words.specs.declared.Word.TheVariants.{End, Free, Level, Num, Place, Inner, Bad}
use Rattle.mem_sorts.specs.declared.Kind.{Kind}
use Rattle.mem_sorts.specs.declared.Kind.TheVariants.{Or, And, Guarded, Member, Wait, Cond, Commit}
use Rattle.mem_sorts.specs.declared.Sort.{Sort}
use Rattle.mem_sorts.specs.declared.Sort.TheVariants.{Locals, Store, True, Fail, Eq, App, Call, Comp, Hide, Clause, AskWait, AskCond, AskCommit}

-- the variables that the words begin with: an and-box's locals, behind `Inner Locals`
unfoldable pub frees : List Word → List ℕ
frees [] = []
frees (End ∷ W) = []
frees (Free x ∷ W) = x ∷ frees W
frees (Level l ∷ W) = []
frees (Num n ∷ W) = []
frees (Place k ∷ W) = []
frees (Inner s ∷ W) = []
frees (Bad ∷ W) = []

-- a variable's number and one more; 0 for a word that is no variable
abbrev pub free_no : Word → ℕ
free_no End = 0
free_no (Free x) = suc x
free_no (Level l) = 0
free_no (Num n) = 0
free_no (Place k) = 0
free_no (Inner s) = 0
free_no Bad = 0

abbrev pub is_and : Kind → Bool
is_and Or = false
is_and And = true
is_and Guarded = false
is_and Member = false
is_and Wait = false
is_and Cond = false
is_and Commit = false

abbrev pub is_locals : Sort → Bool
is_locals Locals = true
is_locals Store = false
is_locals True = false
is_locals Fail = false
is_locals Eq = false
is_locals App = false
is_locals Call = false
is_locals Comp = false
is_locals Hide = false
is_locals Clause = false
is_locals AskWait = false
is_locals AskCond = false
is_locals AskCommit = false

-- a variable's number is below n
abbrev pub word_below : ℕ → Word → Bool
word_below n End = true
word_below n (Free x) = ltb x n
word_below n (Level l) = true
word_below n (Num m) = true
word_below n (Place k) = true
word_below n (Inner s) = true
word_below n Bad = true

-- q query variables and all variables of the words have numbers below `next`
unfoldable pub numbers_passed : ℕ → ℕ → List Word → Bool
numbers_passed q next W = leb q next && all (word_below next) W
