-- Small functions on lists and options that the definitions share.
use Rattle.std.specs.Prelude.{List, [], ◌∷◌, ◌++◌, Bool, true, false, ◌&&◌, ◌||◌, ℕ, zero, suc, ◌+◌, ◌/◌, ◌%◌, eqb, leb}
use Rattle.std.proofs.Math.Option.{Option, some, none}
use Prim.Native.Char.{code}
use Prim.Native.String.{String, len, char_at}

-- A name's bytes.
abbrev pub Name : Type 0
Name = List ℕ

-- The bytes of a quoted text (used with ASCII texts only).
unfoldable pub bytes_from : ℕ → String → ℕ → List ℕ
bytes_from zero s i = []
bytes_from (suc n) s i = code (char_at s i) ∷ bytes_from n s (suc i)

unfoldable pub bytes : String → List ℕ
bytes s = bytes_from (len s) s 0

infixl 10 ◌>>=◌
abbrev pub ◌>>=◌ : {A B : Type 0} → Option A → (A → Option B) → Option B
none >>= f = none
some a >>= f = f a

-- a where the test holds, else nothing
abbrev pub when : {A : Type 0} → Bool → A → Option A
when true a = some a
when false a = none

abbrev pub is_some : {A : Type 0} → Option A → Bool
is_some none = false
is_some (some a) = true

abbrev pub if : {A : Type 0} → Bool → A → A → A
if true a b = a
if false a b = b

unfoldable pub any : {A : Type 0} → (A → Bool) → List A → Bool
any p [] = false
any p (x ∷ l) = p x || any p l

unfoldable pub all : {A : Type 0} → (A → Bool) → List A → Bool
all p [] = true
all p (x ∷ l) = p x && all p l

unfoldable pub flat : {A B : Type 0} → (A → List B) → List A → List B
flat f [] = []
flat f (x ∷ l) = f x ++ flat f l

unfoldable pub nth : {A : Type 0} → List A → ℕ → Option A
nth [] n = none
nth (x ∷ l) zero = some x
nth (x ∷ l) (suc n) = nth l n

unfoldable pub size : {A : Type 0} → List A → ℕ
size [] = 0
size (x ∷ l) = suc (size l)

-- from, from + 1, .., n numbers
unfoldable pub range : ℕ → ℕ → List ℕ
range from zero = []
range from (suc n) = from ∷ range (suc from) n

-- Names are compared byte for byte.
unfoldable pub same : Name → Name → Bool
same [] [] = true
same [] (y ∷ g) = false
same (x ∷ f) [] = false
same (x ∷ f) (y ∷ g) = eqb x y && same f g

unfoldable pub among : Name → List Name → Bool
among x l = any (same x) l

unfoldable pub repeats : List Name → Bool
repeats [] = false
repeats (x ∷ l) = among x l || repeats l

-- the position of the first x
unfoldable pub first : Name → List Name → Option ℕ
first x [] = none
first x (y ∷ l) = if (same x y) (some 0) (first x l >>= λ i. some (suc i))

-- the position of the last x
unfoldable pub last : Name → List Name → Option ℕ
last x [] = none
last x (y ∷ l) = elim (last x l) [ none ↦ if (same x y) (some 0) none | some i ↦ some (suc i) ]

-- each name once, in order of first occurrence
unfoldable pub once : List Name → List Name → List Name
once seen [] = seen
once seen (x ∷ l) = once (if (among x seen) seen (seen ++ (x ∷ []))) l

-- the least number, if there is one
unfoldable pub least : List ℕ → Option ℕ
least [] = none
least (x ∷ l) = elim (least l) [ none ↦ some x | some y ↦ some (if (leb x y) x y) ]

-- a number in decimal, without leading zeros
unfoldable pub decimal_from : ℕ → ℕ → List ℕ → List ℕ
decimal_from zero n tail = tail
decimal_from (suc fuel) n tail =
    let t = (48 + n % 10) ∷ tail in
    elim (eqb (n / 10) 0) [ true ↦ t | false ↦ decimal_from fuel (n / 10) t ]

unfoldable pub decimal : ℕ → List ℕ
decimal n = decimal_from (suc n) n []

-- What a call hands back: a refusal, by its number in document 01's table, or what it is called for.
pub data Result (A : Type 0) : Type 0 where
  refused : ℕ → Result A
  ok : A → Result A
