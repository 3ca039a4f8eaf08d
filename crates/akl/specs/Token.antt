-- Bytes to tokens. Document 01: "Space, tab and newline part tokens. The reading position moves only forward, by whole
-- tokens, the longest first."
use Rattle.std.specs.Prelude.{List, [], ◌∷◌, Bool, true, false, ◌&&◌, ◌||◌, ℕ, zero, suc, eqb, leb}
use Rattle.std.proofs.Math.Option.{Option, some, none}
use Rattle.akl.specs.Base.{Name, size, when, if, ◌>>=◌}
use Rattle.akl.specs.Limits.{name_bytes}
use Rattle.akl.specs.Syntax.{Op, wait, cond, commit}

-- The classes of bytes.
pub data Class : Type 0 where
  small capital digit underscore blank mark other : Class

abbrev pub within : ℕ → ℕ → ℕ → Bool
within a b x = leb a x && leb x b

-- a to z; A to Z; 0 to 9; `_`; space, tab, newline; the bytes of which marks are made: ( ) , - . : ; = > ? |
unfoldable pub class_of : ℕ → Class
class_of x =
    if (within 97 122 x) small
    (if (within 65 90 x) capital
    (if (within 48 57 x) digit
    (if (eqb x 95) underscore
    (if (eqb x 32 || eqb x 9 || eqb x 10) blank
    (if (within 40 41 x || within 44 46 x || within 58 59 x || within 61 63 x || eqb x 124) mark other)))))

-- "a small letter and then letters, digits and underscores"
abbrev pub word_class : Class → Bool
word_class small = true
word_class capital = true
word_class digit = true
word_class underscore = true
word_class blank = false
word_class mark = false
word_class other = false

abbrev pub digit_class : Class → Bool
digit_class small = false
digit_class capital = false
digit_class digit = true
digit_class underscore = false
digit_class blank = false
digit_class mark = false
digit_class other = false

-- The marks: ( ) , . : := = ; and the three operators ? -> |
pub data Mark : Type 0 where
  open_bracket close_bracket comma full_stop colon defines equals semicolon : Mark
  operator : Op → Mark

-- "A name is a small letter and then letters, digits and underscores, or digits alone"; "A variable begins with a capital
-- and goes on like a name." A name of digits alone is a token of its own, since "only constructors may be digits alone".
pub data Token : Type 0 where
  name : Name → Token
  digits : Name → Token
  variable : Name → Token
  sign : Mark → Token

-- The longest run of bytes that pass the test, and what is left.
unfoldable pub span : (Class → Bool) → List ℕ → List ℕ × List ℕ
span p [] = ([], [])
span p (x ∷ l) = let r = span p l in elim (p (class_of x)) [ true ↦ (x ∷ r.0, r.1) | false ↦ ([], x ∷ l) ]

-- "Both have 1 to 32 bytes."
abbrev pub fits : Name → Bool
fits w = leb (size w) name_bytes

-- What the next bytes are: a blank to pass over, a token, or neither; with what is left behind it.
pub data Lexed : Type 0 where
  passed : List ℕ → Lexed
  token : Token → List ℕ → Lexed
  bad : Lexed

abbrev pub word : (Name → Token) → List ℕ × List ℕ → Lexed
word make w = if (fits w.0) (token (make w.0) w.1) bad

-- a mark of two bytes where the second follows: `:=` before `:`, and `->`
abbrev pub followed : ℕ → List ℕ → Option (List ℕ)
followed x [] = none
followed x (y ∷ l) = when (eqb x y) l

abbrev pub marked : ℕ → List ℕ → Lexed
marked x l =
    if (eqb x 40) (token (sign open_bracket) l)
    (if (eqb x 41) (token (sign close_bracket) l)
    (if (eqb x 44) (token (sign comma) l)
    (if (eqb x 45) (elim (followed 62 l) [ none ↦ bad | some r ↦ token (sign (operator cond)) r ])
    (if (eqb x 46) (token (sign full_stop) l)
    (if (eqb x 58) (elim (followed 61 l) [ none ↦ token (sign colon) l | some r ↦ token (sign defines) r ])
    (if (eqb x 59) (token (sign semicolon) l)
    (if (eqb x 61) (token (sign equals) l)
    (if (eqb x 63) (token (sign (operator wait)) l)
    (if (eqb x 124) (token (sign (operator commit)) l) bad)))))))))

abbrev pub lexed : Class → ℕ → List ℕ → Lexed
lexed small x l = word name (span word_class (x ∷ l))
lexed capital x l = word variable (span word_class (x ∷ l))
lexed digit x l = word digits (span digit_class (x ∷ l))
lexed underscore x l = bad
lexed blank x l = passed l
lexed mark x l = marked x l
lexed other x l = bad

-- All the tokens of a text, or none where some bytes are no token. Each turn passes a byte at least, so that as many
-- turns as there are bytes, and one more, are enough.
unfoldable pub tokens_in : ℕ → List ℕ → Option (List Token)
tokens_in zero l = none
tokens_in (suc n) [] = some []
tokens_in (suc n) (x ∷ l) = elim (lexed (class_of x) x l) [ passed r ↦ tokens_in n r | token t r ↦ tokens_in n r >>= (λ ts. some (t ∷ ts)) | bad ↦ none ]

unfoldable pub tokens : List ℕ → Option (List Token)
tokens text = tokens_in (suc (size text)) text
