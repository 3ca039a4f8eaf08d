-- What is read of a list of words is laid out at its front: single words and lists of variables.
use mathlib.Core.Path.{◌≡◌, refl, ap, subst}
use mathlib.Core.List.{List, [], ◌∷◌}
use mathlib.Core.Option.{Option, some, none}
use Prim.Native.Nat.{ℕ}
use Rattle.akl.specs.Base.{Name, ◌>>=◌}
use Rattle.akl.specs.Syntax.{Var}
use Rattle.mem_words.specs.declared.Word.{Word}
use Rattle.mem_words.specs.declared.Word.TheVariants.{End, Free, Level, Num, Place, Inner, Bad}
use Rattle.mem_sorts.specs.declared.Sort.{Sort}
use Rattle.layout.specs.Layout.{var_word, vars_words}
use Rattle.layout.specs.Reading.{an_end, a_number, a_var, an_opening, vars_from}
use Rattle.layout.specs.Tables.{Numbered}

-- What is read, if anything is, satisfies Q.
abbrev pub Good : {A : Type 0} → (A → Type 0) → Option A → Type 0
Good Q none = Unit {0}
Good Q (some a) = Q a

pub bind : {A B : Type 0} (Q : A → Type 0) (R : B → Type 0) (o : Option A) (f : A → Option B) → Good Q o → ((a : A) → Q a → Good R (f a)) → Good R (o >>= f)
bind Q R none f g h = tt
bind Q R (some a) f g h = h a g

pub taken : {A : Type 0} (Q : A → Type 0) (o : Option A) (a : A) → Good Q o → o ≡ some a → Q a
taken Q o a g e = subst (Good Q) e g

abbrev pub IsEnd : List Word → List Word → Type 0
IsEnd ws r = ws ≡ End ∷ r

abbrev pub IsNumber : List Word → ℕ × List Word → Type 0
IsNumber ws x = ws ≡ Num x.0 ∷ x.1

abbrev pub IsVar : List Word → Var × List Word → Type 0
IsVar ws x = ws ≡ var_word x.0 ∷ x.1

abbrev pub IsOpening : List Word → Sort × List Word → Type 0
IsOpening ws x = ws ≡ Inner x.0 ∷ x.1

abbrev pub IsVars : List Word → List Var × List Word → Type 0
IsVars ws x = ws ≡ vars_words x.0 (End ∷ x.1)

pub end_good : (ws : List Word) → Good (IsEnd ws) (an_end ws)
unfolding an_end
end_good [] = tt
end_good (End ∷ r) = refl
end_good (Free x ∷ r) = tt
end_good (Level l ∷ r) = tt
end_good (Num n ∷ r) = tt
end_good (Place k ∷ r) = tt
end_good (Inner s ∷ r) = tt
end_good (Bad ∷ r) = tt

pub number_good : (ws : List Word) → Good (IsNumber ws) (a_number ws)
unfolding a_number
number_good [] = tt
number_good (End ∷ r) = tt
number_good (Free x ∷ r) = tt
number_good (Level l ∷ r) = tt
number_good (Num n ∷ r) = refl
number_good (Place k ∷ r) = tt
number_good (Inner s ∷ r) = tt
number_good (Bad ∷ r) = tt

pub var_good : (ws : List Word) → Good (IsVar ws) (a_var ws)
unfolding a_var var_word
var_good [] = tt
var_good (End ∷ r) = tt
var_good (Free x ∷ r) = refl
var_good (Level l ∷ r) = refl
var_good (Num n ∷ r) = tt
var_good (Place k ∷ r) = tt
var_good (Inner s ∷ r) = tt
var_good (Bad ∷ r) = tt

pub opening_good : (ws : List Word) → Good (IsOpening ws) (an_opening ws)
unfolding an_opening
opening_good [] = tt
opening_good (End ∷ r) = tt
opening_good (Free x ∷ r) = tt
opening_good (Level l ∷ r) = tt
opening_good (Num n ∷ r) = tt
opening_good (Place k ∷ r) = tt
opening_good (Inner s ∷ r) = refl
opening_good (Bad ∷ r) = tt

pub vars_good : (ws : List Word) → Good (IsVars ws) (vars_from ws)
unfolding vars_from vars_words var_word
vars_good [] = tt
vars_good (End ∷ r) = refl
vars_good (Free x ∷ r) = bind (IsVars r) (IsVars (Free x ∷ r)) (vars_from r) _ (vars_good r) (λ xs e. ap (λ (u : List Word). Free x ∷ u) e)
vars_good (Level l ∷ r) = bind (IsVars r) (IsVars (Level l ∷ r)) (vars_from r) _ (vars_good r) (λ xs e. ap (λ (u : List Word). Level l ∷ u) e)
vars_good (Num n ∷ r) = tt
vars_good (Place k ∷ r) = tt
vars_good (Inner s ∷ r) = tt
vars_good (Bad ∷ r) = tt

-- What stands behind numbered words is numbered.
pub behind : (num : Name → ℕ) (spell : ℕ → Name) (ws r : List Word) (w : Word) → ws ≡ w ∷ r → Numbered num spell ws → Numbered num spell r
behind num spell ws r w e h = (subst (Numbered num spell) e h).1

pub behind_vars : (num : Name → ℕ) (spell : ℕ → Name) (xs : List Var) (r : List Word) → Numbered num spell (vars_words xs (End ∷ r)) → Numbered num spell r
unfolding vars_words
behind_vars num spell [] r h = h.1
behind_vars num spell (x ∷ xs) r h = behind_vars num spell xs r h.1
