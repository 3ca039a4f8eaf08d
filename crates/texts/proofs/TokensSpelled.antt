-- The tokens of a text are spelled as they must be, and so are the names in the tree that is read from them.
use mathlib.Core.Path.{◌≡◌, refl, ap, sym, ◌∙◌, subst}
use mathlib.Core.Logic.{◌↔◌, ◌⊎◌, inl, inr}
use mathlib.Core.List.{List, [], ◌∷◌, ◌++◌}
use mathlib.Core.Bool.{Bool, true, false, ◌&&◌, ◌||◌, not}
use mathlib.Core.Option.{Option, some, none}
use Prim.Native.Nat.{ℕ, zero, suc}
use native.Mathlib.Omega.{arith}
use lib.Dec.{T, eqb, leb}
use Rattle.constraint.specs.Constraint.{Con, ctrue, cfail, ceq, capp}
use Rattle.constraint.proofs.Lists.{and_T, or_T, not_T}
use Rattle.akl.specs.Base.{Name, bytes, size, same, all, when, if, ◌>>=◌}
use Rattle.akl.specs.Limits.{name_bytes}
use Rattle.akl.specs.Syntax.{Op, wait, cond, commit}
use Rattle.akl.specs.Token.{Class, small, capital, digit, underscore, blank, mark, other, class_of, word_class, digit_class, Mark, open_bracket, close_bracket, comma, full_stop, colon, defines, equals, semicolon, operator, Token, name, digits, variable, sign, span, fits, Lexed, passed, token, bad, word, followed, marked, lexed, tokens_in, tokens}
use Rattle.akl.specs.WellFormed.{is_small, is_capital, begins, spelled_name, spelled_digits, spelled_variable, spelled_predicate}
use Rattle.texts.specs.Spelled.{SpelledToken, SpelledTokens}

-- a run of bytes: all of its class; it begins with the first byte, if that is of the class
span_all : (p : Class → Bool) (l : List ℕ) → T (all (λ x. p (class_of x)) (span p l).0)
unfolding span all
span_all p [] = tt
span_all p (x ∷ l) = go (p (class_of x)) refl (span_all p l)
  where
    go : (b : Bool) → p (class_of x) ≡ b → T (all (λ y. p (class_of y)) (span p l).0) → T (all (λ y. p (class_of y)) (elim b as (λ c. List ℕ × List ℕ) [ true ↦ (x ∷ (span p l).0, (span p l).1) | false ↦ ([], x ∷ l) ]).0)
    go true e ih = (and_T (p (class_of x)) (all (λ y. p (class_of y)) (span p l).0)).1 (subst T (sym e) tt, ih)
    go false e ih = tt

span_begins : (p r : Class → Bool) (x : ℕ) (l : List ℕ) → T (p (class_of x)) → T (r (class_of x)) → T (begins r (span p (x ∷ l)).0)
unfolding span
span_begins p r x l h k = go (p (class_of x)) h
  where
    go : (b : Bool) → T b → T (begins r (elim b as (λ c. List ℕ × List ℕ) [ true ↦ (x ∷ (span p l).0, (span p l).1) | false ↦ ([], x ∷ l) ]).0)
    go false t = elim t [ ]
    go true t = k

abbrev SpelledLexed : Lexed → Type 0
SpelledLexed (passed l) = Unit {0}
SpelledLexed (token t l) = SpelledToken t
SpelledLexed bad = Unit {0}

word_spelled : (make : Name → Token) (w : List ℕ × List ℕ) → (T (fits w.0) → SpelledToken (make w.0)) → SpelledLexed (word make w)
word_spelled make w h = go (fits w.0) h
  where
    go : (b : Bool) → (T b → SpelledToken (make w.0)) → SpelledLexed (if b (token (make w.0) w.1) bad)
    go true k = k tt
    go false k = tt

marked_spelled : (x : ℕ) (l : List ℕ) → SpelledLexed (marked x l)
marked_spelled x l = go (eqb x 40) (eqb x 41) (eqb x 44) (eqb x 45) (eqb x 46) (eqb x 58) (eqb x 59) (eqb x 61) (eqb x 63) (eqb x 124) (followed 62 l) (followed 61 l)
  where
    go : (b1 b2 b3 b4 b5 b6 b7 b8 b9 b10 : Bool) (f g : Option (List ℕ)) → SpelledLexed (if b1 (token (sign open_bracket) l) (if b2 (token (sign close_bracket) l) (if b3 (token (sign comma) l) (if b4 (elim f [ none ↦ bad | some r ↦ token (sign (operator cond)) r ]) (if b5 (token (sign full_stop) l) (if b6 (elim g [ none ↦ token (sign colon) l | some r ↦ token (sign defines) r ]) (if b7 (token (sign semicolon) l) (if b8 (token (sign equals) l) (if b9 (token (sign (operator wait)) l) (if b10 (token (sign (operator commit)) l) bad))))))))))
    go true b2 b3 b4 b5 b6 b7 b8 b9 b10 f g = tt
    go false true b3 b4 b5 b6 b7 b8 b9 b10 f g = tt
    go false false true b4 b5 b6 b7 b8 b9 b10 f g = tt
    go false false false true b5 b6 b7 b8 b9 b10 none g = tt
    go false false false true b5 b6 b7 b8 b9 b10 (some r) g = tt
    go false false false false true b6 b7 b8 b9 b10 f g = tt
    go false false false false false true b7 b8 b9 b10 f none = tt
    go false false false false false true b7 b8 b9 b10 f (some r) = tt
    go false false false false false false true b8 b9 b10 f g = tt
    go false false false false false false false true b9 b10 f g = tt
    go false false false false false false false false true b10 f g = tt
    go false false false false false false false false false true f g = tt
    go false false false false false false false false false false f g = tt

lexed_spelled : (c : Class) (x : ℕ) (l : List ℕ) → class_of x ≡ c → SpelledLexed (lexed c x l)
unfolding spelled_name spelled_digits spelled_variable
lexed_spelled small x l e = word_spelled name (span word_class (x ∷ l)) (λ f. (and_T (begins is_small (span word_class (x ∷ l)).0 && all (λ y. word_class (class_of y)) (span word_class (x ∷ l)).0) (leb (size (span word_class (x ∷ l)).0) name_bytes)).1 ((and_T (begins is_small (span word_class (x ∷ l)).0) (all (λ y. word_class (class_of y)) (span word_class (x ∷ l)).0)).1 (span_begins word_class is_small x l (subst (λ c. T (word_class c)) (sym e) tt) (subst (λ c. T (is_small c)) (sym e) tt), span_all word_class (x ∷ l)), f))
lexed_spelled capital x l e = word_spelled variable (span word_class (x ∷ l)) (λ f. (and_T (begins is_capital (span word_class (x ∷ l)).0 && all (λ y. word_class (class_of y)) (span word_class (x ∷ l)).0) (leb (size (span word_class (x ∷ l)).0) name_bytes)).1 ((and_T (begins is_capital (span word_class (x ∷ l)).0) (all (λ y. word_class (class_of y)) (span word_class (x ∷ l)).0)).1 (span_begins word_class is_capital x l (subst (λ c. T (word_class c)) (sym e) tt) (subst (λ c. T (is_capital c)) (sym e) tt), span_all word_class (x ∷ l)), f))
lexed_spelled digit x l e = word_spelled digits (span digit_class (x ∷ l)) (λ f. (and_T (begins digit_class (span digit_class (x ∷ l)).0 && all (λ y. digit_class (class_of y)) (span digit_class (x ∷ l)).0) (leb (size (span digit_class (x ∷ l)).0) name_bytes)).1 ((and_T (begins digit_class (span digit_class (x ∷ l)).0) (all (λ y. digit_class (class_of y)) (span digit_class (x ∷ l)).0)).1 (span_begins digit_class digit_class x l (subst (λ c. T (digit_class c)) (sym e) tt) (subst (λ c. T (digit_class c)) (sym e) tt), span_all digit_class (x ∷ l)), f))
lexed_spelled underscore x l e = tt
lexed_spelled blank x l e = tt
lexed_spelled mark x l e = marked_spelled x l
lexed_spelled other x l e = tt

abbrev SpelledSome : Option (List Token) → Type 0
SpelledSome none = Unit {0}
SpelledSome (some ts) = SpelledTokens ts

in_spelled : (n : ℕ) (l : List ℕ) → SpelledSome (tokens_in n l)
unfolding tokens_in
in_spelled zero l = tt
in_spelled (suc n) [] = tt
in_spelled (suc n) (x ∷ l) = go (lexed (class_of x) x l) (lexed_spelled (class_of x) x l refl) (λ r. in_spelled n r)
  where
    more : (t : Token) (o : Option (List Token)) → SpelledToken t → SpelledSome o → SpelledSome (o >>= λ ts. some (t ∷ ts))
    more t none a b = tt
    more t (some ts) a b = (a, b)

    go : (k : Lexed) → SpelledLexed k → ((r : List ℕ) → SpelledSome (tokens_in n r)) → SpelledSome (elim k as (λ z. Option (List Token)) [ passed r ↦ tokens_in n r | token t r ↦ tokens_in n r >>= (λ ts. some (t ∷ ts)) | bad ↦ none ])
    go (passed r) h ih = ih r
    go (token t r) h ih = more t (tokens_in n r) h (ih r)
    go bad h ih = tt

pub tokens_spelled : (l : List ℕ) (ts : List Token) → tokens l ≡ some ts → SpelledTokens ts
unfolding tokens
tokens_spelled l ts e = subst SpelledSome e (in_spelled (suc (size l)) l)
