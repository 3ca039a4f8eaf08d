-- Tokens that are spelled as they must be, written with a space behind each, are the tokens of that text.
use mathlib.Core.Path.{◌≡◌, refl, ap, ◌∙◌}
use mathlib.Core.List.{List, [], ◌∷◌, ◌++◌}
use mathlib.Core.Bool.{Bool, true, false, ◌&&◌}
use mathlib.Core.Option.{Option, some, none}
use Prim.Native.Nat.{ℕ, zero, suc, ◌+◌, ◌≤◌, ◌<◌}
use native.Mathlib.Omega.{arith}
use lib.Dec.{T, leb}
use Rattle.constraint.proofs.Lists.{and_T}
use Rattle.akl.specs.Base.{Name, size, all, if, ◌>>=◌}
use Rattle.akl.specs.Limits.{name_bytes}
use Rattle.akl.specs.Syntax.{wait, cond, commit}
use Rattle.akl.specs.Token.{Class, small, capital, digit, blank, class_of, word_class, digit_class, Mark, open_bracket, close_bracket, comma, full_stop, colon, defines, equals, semicolon, operator, Token, name, digits, variable, sign, span, fits, passed, token, bad, word, lexed, tokens_in, tokens, underscore, mark, other}
use Rattle.akl.specs.WellFormed.{is_small, is_capital, begins, spelled_name, spelled_digits, spelled_variable}
use Rattle.texts.specs.Spelled.{SpelledToken, SpelledTokens}
use Rattle.texts.specs.Draft.{mark_bytes, token_bytes, text_of}
use Rattle.theory.proofs.Locals.{size_append}

-- a run of bytes of the class ends at the space
span_word : (p : Class → Bool) → p blank ≡ false → (w r : List ℕ) → T (all (λ x. p (class_of x)) w) → span p (w ++ 32 ∷ r) ≡ (w, 32 ∷ r)
unfolding span class_of all
span_word p b [] r h = ap (λ c. elim c as (λ z. List ℕ × List ℕ) [ true ↦ (32 ∷ (span p r).0, (span p r).1) | false ↦ ([], 32 ∷ r) ]) b
span_word p b (x ∷ w) r h = go (p (class_of x)) k.0 (span p (w ++ 32 ∷ r)) (span_word p b w r k.1)
  where
    k : T (p (class_of x)) × T (all (λ y. p (class_of y)) w)
    k = (and_T (p (class_of x)) (all (λ y. p (class_of y)) w)).0 h

    go : (c : Bool) → T c → (s : List ℕ × List ℕ) → s ≡ (w, 32 ∷ r) → ◌≡◌ {A = List ℕ × List ℕ} (elim c as (λ z. List ℕ × List ℕ) [ true ↦ (x ∷ s.0, s.1) | false ↦ ([], x ∷ (w ++ 32 ∷ r)) ]) (x ∷ w, 32 ∷ r)
    go false t s e = elim t [ ]
    go true t s e = ap (λ (q : List ℕ × List ℕ). (x ∷ q.0, q.1)) e

word_token : (make : Name → Token) (w r : List ℕ) → T (fits w) → word make (w, r) ≡ token (make w) r
word_token make w r h = go (fits w) h
  where
    go : (b : Bool) → T b → if b (token (make w) r) bad ≡ token (make w) r
    go false t = elim t [ ]
    go true t = refl

the_small : (c : Class) → T (is_small c) → c ≡ small
the_small capital t = elim t [ ]
the_small digit t = elim t [ ]
the_small Rattle.akl.specs.Token.underscore t = elim t [ ]
the_small blank t = elim t [ ]
the_small Rattle.akl.specs.Token.mark t = elim t [ ]
the_small Rattle.akl.specs.Token.other t = elim t [ ]
the_small small t = refl

the_capital : (c : Class) → T (is_capital c) → c ≡ capital
the_capital small t = elim t [ ]
the_capital digit t = elim t [ ]
the_capital Rattle.akl.specs.Token.underscore t = elim t [ ]
the_capital blank t = elim t [ ]
the_capital Rattle.akl.specs.Token.mark t = elim t [ ]
the_capital Rattle.akl.specs.Token.other t = elim t [ ]
the_capital capital t = refl

the_digit : (c : Class) → T (digit_class c) → c ≡ digit
the_digit small t = elim t [ ]
the_digit capital t = elim t [ ]
the_digit underscore t = elim t [ ]
the_digit blank t = elim t [ ]
the_digit mark t = elim t [ ]
the_digit other t = elim t [ ]
the_digit digit t = refl

-- One turn takes the token and leaves the space.
abbrev Turn : Token → Type 0
Turn t = (n : ℕ) (r : List ℕ) → tokens_in (suc n) (token_bytes t ++ 32 ∷ r) ≡ (tokens_in n (32 ∷ r) >>= λ ts. some (t ∷ ts))

-- by what the bytes of a word are taken for
word_turn : (t : Token) (x : ℕ) (w : List ℕ) → ((r : List ℕ) → lexed (class_of x) x (w ++ 32 ∷ r) ≡ token t (32 ∷ r)) → (n : ℕ) (r : List ℕ) → tokens_in (suc n) (x ∷ (w ++ 32 ∷ r)) ≡ (tokens_in n (32 ∷ r) >>= λ ts. some (t ∷ ts))
unfolding tokens_in
word_turn t x w e n r = ap (λ k. elim k as (λ z. Option (List Token)) [ passed q ↦ tokens_in n q | token u q ↦ tokens_in n q >>= (λ ts. some (u ∷ ts)) | bad ↦ none ]) (e r)

name_turn : (w : Name) → T (spelled_name w) → Turn (name w)
unfolding spelled_name
name_turn [] h n r = absurd h
name_turn (x ∷ w) h n r = word_turn (name (x ∷ w)) x w (λ q. ap (λ c. lexed c x (w ++ 32 ∷ q)) (the_small (class_of x) k1.0) ∙ ap (word name) (span_word word_class refl (x ∷ w) q k1.1) ∙ word_token name (x ∷ w) (32 ∷ q) k2.1) n r
  where
    k2 : T (begins is_small (x ∷ w) && all (λ y. word_class (class_of y)) (x ∷ w)) × T (leb (size (x ∷ w)) name_bytes)
    k2 = (and_T (begins is_small (x ∷ w) && all (λ y. word_class (class_of y)) (x ∷ w)) (leb (size (x ∷ w)) name_bytes)).0 h

    k1 : T (begins is_small (x ∷ w)) × T (all (λ y. word_class (class_of y)) (x ∷ w))
    k1 = (and_T (begins is_small (x ∷ w)) (all (λ y. word_class (class_of y)) (x ∷ w))).0 k2.0

variable_turn : (w : Name) → T (spelled_variable w) → Turn (variable w)
unfolding spelled_variable
variable_turn [] h n r = absurd h
variable_turn (x ∷ w) h n r = word_turn (variable (x ∷ w)) x w (λ q. ap (λ c. lexed c x (w ++ 32 ∷ q)) (the_capital (class_of x) k1.0) ∙ ap (word variable) (span_word word_class refl (x ∷ w) q k1.1) ∙ word_token variable (x ∷ w) (32 ∷ q) k2.1) n r
  where
    k2 : T (begins is_capital (x ∷ w) && all (λ y. word_class (class_of y)) (x ∷ w)) × T (leb (size (x ∷ w)) name_bytes)
    k2 = (and_T (begins is_capital (x ∷ w) && all (λ y. word_class (class_of y)) (x ∷ w)) (leb (size (x ∷ w)) name_bytes)).0 h

    k1 : T (begins is_capital (x ∷ w)) × T (all (λ y. word_class (class_of y)) (x ∷ w))
    k1 = (and_T (begins is_capital (x ∷ w)) (all (λ y. word_class (class_of y)) (x ∷ w))).0 k2.0

digits_turn : (w : Name) → T (spelled_digits w) → Turn (digits w)
unfolding spelled_digits
digits_turn [] h n r = absurd h
digits_turn (x ∷ w) h n r = word_turn (digits (x ∷ w)) x w (λ q. ap (λ c. lexed c x (w ++ 32 ∷ q)) (the_digit (class_of x) k1.0) ∙ ap (word digits) (span_word digit_class refl (x ∷ w) q k1.1) ∙ word_token digits (x ∷ w) (32 ∷ q) k2.1) n r
  where
    k2 : T (begins digit_class (x ∷ w) && all (λ y. digit_class (class_of y)) (x ∷ w)) × T (leb (size (x ∷ w)) name_bytes)
    k2 = (and_T (begins digit_class (x ∷ w) && all (λ y. digit_class (class_of y)) (x ∷ w)) (leb (size (x ∷ w)) name_bytes)).0 h

    k1 : T (begins digit_class (x ∷ w)) × T (all (λ y. digit_class (class_of y)) (x ∷ w))
    k1 = (and_T (begins digit_class (x ∷ w)) (all (λ y. digit_class (class_of y)) (x ∷ w))).0 k2.0

mark_turn : (m : Mark) → Turn (sign m)
unfolding tokens_in class_of
mark_turn open_bracket n r = refl
mark_turn close_bracket n r = refl
mark_turn comma n r = refl
mark_turn full_stop n r = refl
mark_turn colon n r = refl
mark_turn defines n r = refl
mark_turn equals n r = refl
mark_turn semicolon n r = refl
mark_turn (operator wait) n r = refl
mark_turn (operator cond) n r = refl
mark_turn (operator commit) n r = refl

turn : (t : Token) → SpelledToken t → Turn t
turn (name w) h = name_turn w h
turn (digits w) h = digits_turn w h
turn (variable w) h = variable_turn w h
turn (sign m) h = mark_turn m

space_turn : (n : ℕ) (r : List ℕ) → tokens_in (suc n) (32 ∷ r) ≡ tokens_in n r
unfolding tokens_in class_of
space_turn n r = refl

-- a token has a byte
token_some : (t : Token) → SpelledToken t → 1 ≤ size (token_bytes t)
unfolding size spelled_name spelled_digits spelled_variable
token_some (name []) h = absurd h
token_some (name (x ∷ w)) h = omega arith
token_some (digits []) h = absurd h
token_some (digits (x ∷ w)) h = omega arith
token_some (variable []) h = absurd h
token_some (variable (x ∷ w)) h = omega arith
token_some (sign m) h = go m
  where
    go : (k : Mark) → 1 ≤ size (mark_bytes k)
    go open_bracket = omega arith
    go close_bracket = omega arith
    go comma = omega arith
    go full_stop = omega arith
    go colon = omega arith
    go defines = omega arith
    go equals = omega arith
    go semicolon = omega arith
    go (operator wait) = omega arith
    go (operator cond) = omega arith
    go (operator commit) = omega arith

in_turns : (ts : List Token) (n : ℕ) → SpelledTokens ts → size (text_of ts) < n → tokens_in n (text_of ts) ≡ some ts
unfolding text_of size tokens_in
in_turns [] zero h l = absurd (omega arith)
in_turns [] (suc n) h l = nothing n
  where
    nothing : (k : ℕ) → tokens_in (suc k) [] ≡ some []
    nothing k = refl
in_turns (t ∷ ts) zero h l = absurd (omega arith)
in_turns (t ∷ ts) (suc zero) h l = absurd (short (size_append (token_bytes t) (32 ∷ text_of ts)) (token_some t h.0) l)
  where
    short : size (token_bytes t ++ 32 ∷ text_of ts) ≡ size (token_bytes t) + suc (size (text_of ts)) → 1 ≤ size (token_bytes t) → size (token_bytes t ++ 32 ∷ text_of ts) < 1 → ⊥
    short e o k = omega arith
in_turns (t ∷ ts) (suc (suc n)) h l = turn t h.0 (suc n) (text_of ts) ∙ ap (λ o. o >>= λ us. some (t ∷ us)) (space_turn n (text_of ts) ∙ in_turns ts n h.1 (long (size_append (token_bytes t) (32 ∷ text_of ts)) (token_some t h.0) l))
  where
    long : size (token_bytes t ++ 32 ∷ text_of ts) ≡ size (token_bytes t) + suc (size (text_of ts)) → 1 ≤ size (token_bytes t) → size (token_bytes t ++ 32 ∷ text_of ts) < suc (suc n) → size (text_of ts) < n
    long e o k = omega arith

pub text_tokens : (ts : List Token) → SpelledTokens ts → tokens (text_of ts) ≡ some ts
unfolding tokens
text_tokens ts h = in_turns ts (suc (size (text_of ts))) h (omega arith)
