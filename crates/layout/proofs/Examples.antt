-- Words of small statements, computed: the number of a name is its first byte.
use mathlib.Core.Path.{◌≡◌, refl}
use mathlib.Core.List.{List, [], ◌∷◌}
use mathlib.Core.Option.{some, none}
use Prim.Native.Nat.{ℕ}
use Rattle.constraint.specs.Constraint.{ctrue, cfail, ceq, capp}
use Rattle.akl.specs.Base.{Name, bytes_from, bytes}
use Rattle.akl.specs.Syntax.{number, level, wait, cond, commit, Stmt, atom, call, comp, hide, choice, no_more, clause, Def, Program}
use Rattle.mem_words.specs.declared.Word.{Word}
use Rattle.mem_words.specs.declared.Word.TheVariants.{End, Free, Level, Num, Inner, Bad}
use Rattle.mem_sorts.specs.declared.Sort.TheVariants.{Locals, True, Fail, Eq, App, Call, Comp, Hide, Clause, AskWait, AskCond, AskCommit}
use Rattle.layout.specs.Layout.{var_word, vars_words, ask, con_words, stmt_words, program_words}
use Rattle.layout.specs.Reading.{an_end, a_number, a_var, an_opening, vars_from, inside, a_clause, some_clauses, stmt_from, program_from, read_stmt, read_program}

abbrev byte : Name → ℕ
byte [] = 0
byte (x ∷ l) = x

abbrev letter : ℕ → Name
letter x = x ∷ []

-- (V : V = f(X1), (V = V -> p(V, X1) ; true -> fail))
abbrev small : Stmt
small = hide 1 (comp (atom (capp (level 0) (bytes "f") (number 1 ∷ []))) (choice cond (clause 0 (atom (ceq (level 0) (level 0))) (call (bytes "p") (level 0 ∷ number 1 ∷ [])) (clause 0 (atom ctrue) (atom cfail) no_more))))

abbrev small_words : List Word
small_words =
    Inner Hide ∷ Num 1
    ∷ Inner Comp
    ∷ Inner App ∷ Level 0 ∷ Num 102 ∷ Free 1 ∷ End
    ∷ Inner AskCond
    ∷ Inner Clause ∷ Num 0 ∷ Inner Eq ∷ Level 0 ∷ Level 0 ∷ End ∷ Inner Call ∷ Num 112 ∷ Level 0 ∷ Free 1 ∷ End ∷ End
    ∷ Inner Clause ∷ Num 0 ∷ Inner True ∷ End ∷ Inner Fail ∷ End ∷ End
    ∷ End
    ∷ End
    ∷ End
    ∷ []

pub laid : stmt_words byte small [] ≡ small_words
unfolding stmt_words con_words vars_words var_word ask bytes bytes_from
laid = refl

pub read : read_stmt letter small_words ≡ some (small, [])
unfolding read_stmt stmt_from inside an_opening an_end a_number a_var vars_from some_clauses a_clause bytes bytes_from
read = refl

-- the three operators open choices of different sorts
pub asks : stmt_words byte (choice wait no_more) (stmt_words byte (choice cond no_more) (stmt_words byte (choice commit no_more) [])) ≡ Inner AskWait ∷ End ∷ Inner AskCond ∷ End ∷ Inner AskCommit ∷ End ∷ []
unfolding stmt_words ask
asks = refl

-- p(V) := V = a. q := p(X3).
abbrev two : Program
two = record { name = bytes "p"; arity = 1; body = atom (capp (level 0) (bytes "a") []) } ∷ record { name = bytes "q"; arity = 0; body = call (bytes "p") (number 3 ∷ []) } ∷ []

abbrev two_words : List Word
two_words =
    Num 112 ∷ Num 1 ∷ Inner App ∷ Level 0 ∷ Num 97 ∷ End
    ∷ Num 113 ∷ Num 0 ∷ Inner Call ∷ Num 112 ∷ Free 3 ∷ End
    ∷ []

pub laid_program : program_words byte two ≡ two_words
unfolding program_words stmt_words con_words vars_words var_word bytes bytes_from
laid_program = refl

pub read_two : read_program letter two_words ≡ some two
unfolding read_program program_from stmt_from inside an_opening an_end a_number a_var vars_from bytes bytes_from
read_two = refl

-- Refused: a number where a variable should stand; a hiding without its number; a bad word; a missing End; a list of locals; a clause
-- that stands alone; words behind a program's last definition.
pub refuses_number : read_stmt letter (Inner Call ∷ Num 112 ∷ Num 1 ∷ End ∷ []) ≡ none
unfolding read_stmt stmt_from inside an_opening a_number vars_from
refuses_number = refl

pub refuses_hide : read_stmt letter (Inner Hide ∷ Inner True ∷ End ∷ End ∷ []) ≡ none
unfolding read_stmt stmt_from inside an_opening a_number
refuses_hide = refl

pub refuses_bad : read_stmt letter (Inner Eq ∷ Free 0 ∷ Bad ∷ End ∷ []) ≡ none
unfolding read_stmt stmt_from inside an_opening a_var
refuses_bad = refl

pub refuses_open : read_stmt letter (Inner Comp ∷ Inner True ∷ End ∷ Inner Fail ∷ End ∷ []) ≡ none
unfolding read_stmt stmt_from inside an_opening an_end
refuses_open = refl

pub refuses_locals : (r : List Word) → read_stmt letter (Inner Locals ∷ r) ≡ none
unfolding read_stmt stmt_from inside an_opening
refuses_locals r = refl

pub refuses_clause : (r : List Word) → read_stmt letter (Inner Clause ∷ r) ≡ none
unfolding read_stmt stmt_from inside an_opening
refuses_clause r = refl

pub refuses_rest : read_program letter (Num 112 ∷ Num 0 ∷ Inner True ∷ End ∷ End ∷ []) ≡ none
unfolding read_program program_from stmt_from inside an_opening an_end a_number
refuses_rest = refl
