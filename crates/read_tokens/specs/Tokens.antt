-- The definitions' tokens of a text are `next-token`, again and again. Assumes nothing.
use Rattle.std.specs.Prelude.{◌≡◌, refl, List, [], ◌∷◌, Bool, true, false, ℕ, zero, suc, ◌≤◌, ◌<◌, get_or, drop}
use Rattle.std.proofs.Common.{ap, sym, ◌∙◌, subst, arith}
use Rattle.std.proofs.Math.Option.{Option, some, none}
use Rattle.akl.specs.Base.{size, if, ◌>>=◌}
use Rattle.akl.specs.Token.{Class, small, capital, digit, underscore, blank, mark, other, class_of, word_class, digit_class, Token, name, digits, variable, span, fits, Lexed, passed, token, bad, word, lexed, tokens_in, tokens}
use Rattle.read_tokens.specs.declared.Next.{Next}
use Rattle.read_tokens.specs.declared.Sign.{Sign}
use Rattle.std.specs.Prelude as std
use Rattle.read_tokens.specs.declared.Sign.TheVariants.{One, Two}
use Rattle.read_tokens.specs.Kinds.{sign_of}
use Rattle.read_tokens.specs.Marks.{marks, sign_marked}
use Rattle.read_tokens.specs.Runs.{span_more}
use Rattle.read_tokens.specs.Next.{Found, next, at_end, no_token, found, next_token, meant, Reads}

-- What is left behind a byte and the bytes l: all of l behind a blank, at most l behind a token.
abbrev Left : List ℕ → Lexed → Type 0
Left l (passed r) = r ≡ l
Left l (token t r) = size r ≤ size l
Left l bad = Unit

span_left : (p : Class → Bool) (l : List ℕ) → size (span p l).1 ≤ size l
unfolding span size
span_left p [] = omega arith
span_left p (x ∷ l) = go (p (class_of x)) (span_left p l)
  where
    go : (b : Bool) → size (span p l).1 ≤ size l → size (elim b as (λ z. List ℕ × List ℕ) [ true ↦ (x ∷ (span p l).0, (span p l).1) | false ↦ ([], x ∷ l) ]).1 ≤ suc (size l)
    go true h = omega arith
    go false h = omega arith

word_left : (make : List ℕ → Token) (l : List ℕ) (w : List ℕ × List ℕ) → size w.1 ≤ size l → Left l (word make w)
word_left make l w h = go (fits w.0)
  where
    go : (b : Bool) → Left l (if b (token (make w.0) w.1) bad)
    go true = h
    go false = tt

run_left : (p : Class → Bool) (x : ℕ) (l : List ℕ) → p (class_of x) ≡ true → size (span p (x ∷ l)).1 ≤ size l
run_left p x l e = subst (λ (w : List ℕ × List ℕ). size w.1 ≤ size l) (sym (span_more p x l e)) (span_left p l)

marks_left : (m : std.Option Sign) (l : List ℕ) → Left l (marks m [] [] l)
unfolding size
marks_left (std.Some (One k)) l = omega arith
marks_left (std.Some (Two k)) [] = omega arith
marks_left (std.Some (Two k)) (x ∷ l) = omega arith
marks_left std.None l = tt

lexed_left : (c : Class) (x : ℕ) (l : List ℕ) → class_of x ≡ c → Left l (lexed c x l)
lexed_left small x l e = word_left name l (span word_class (x ∷ l)) (run_left word_class x l (ap word_class e))
lexed_left capital x l e = word_left variable l (span word_class (x ∷ l)) (run_left word_class x l (ap word_class e))
lexed_left digit x l e = word_left digits l (span digit_class (x ∷ l)) (run_left digit_class x l (ap digit_class e))
lexed_left underscore x l e = tt
lexed_left blank x l e = refl
lexed_left mark x l e = subst (Left l) (sign_marked x [] [] l) (marks_left (sign_of x (get_or l 0 0)) l)
lexed_left other x l e = tt

-- turns beyond the number of bytes change nothing
enough : (n m : ℕ) (l : List ℕ) → size l < n → size l < m → tokens_in n l ≡ tokens_in m l
unfolding tokens_in size
enough zero m l h g = absurd (omega arith)
enough (suc n) zero l h g = absurd (omega arith)
enough (suc n) (suc m) [] h g = refl
enough (suc n) (suc m) (x ∷ l) h g = go (lexed (class_of x) x l) (lexed_left (class_of x) x l refl) (enough n m)
  where
    go : (d : Lexed) → Left l d → ((r : List ℕ) → size r < n → size r < m → tokens_in n r ≡ tokens_in m r) →
        ◌≡◌ {A = Option (List Token)} (elim d as (λ z. Option (List Token)) [ passed r ↦ tokens_in n r | token t r ↦ tokens_in n r >>= (λ ts. some (t ∷ ts)) | bad ↦ none ])
        (elim d as (λ z. Option (List Token)) [ passed r ↦ tokens_in m r | token t r ↦ tokens_in m r >>= (λ ts. some (t ∷ ts)) | bad ↦ none ])
    go (passed r) k i = let z : size r ≡ size l = ap size k in i r (omega arith) (omega arith)
    go (token t r) k i = ap (λ (o : Option (List Token)). o >>= (λ ts. some (t ∷ ts))) (i r (omega arith) (omega arith))
    go bad k i = refl

-- the tokens of what `next-token` found
abbrev pub all_from : Found → Option (List Token)
all_from (next t r) = tokens r >>= (λ ts. some (t ∷ ts))
all_from at_end = some []
all_from no_token = none

next_in : (n : ℕ) (l : List ℕ) → size l < n → tokens_in n l ≡ all_from (next_token l)
unfolding tokens_in tokens next_token size
next_in zero l h = absurd (omega arith)
next_in (suc n) [] h = refl
next_in (suc n) (x ∷ l) h = go (lexed (class_of x) x l) (lexed_left (class_of x) x l refl) (next_in n l (omega arith))
  where
    go : (d : Lexed) → Left l d → tokens_in n l ≡ all_from (next_token l) →
        ◌≡◌ {A = Option (List Token)} (elim d as (λ z. Option (List Token)) [ passed r ↦ tokens_in n r | token t r ↦ tokens_in n r >>= (λ ts. some (t ∷ ts)) | bad ↦ none ]) (all_from (found (next_token l) d))
    go (passed r) k i = ap (tokens_in n) k ∙ i
    go (token t r) k i = ap (λ (o : Option (List Token)). o >>= (λ ts. some (t ∷ ts))) (enough n (suc (size r)) r (omega arith) (omega arith))
    go bad k i = refl

-- The tokens of a text are its next token and the tokens of what is left behind it.
pub tokens_next : (text : List ℕ) → tokens text ≡ all_from (next_token text)
unfolding tokens
tokens_next text = next_in (suc (size text)) text (omega arith)

-- So the tokens from a cursor on are what `next` answers there, and the tokens from the cursor that it hands back.
pub tokens_read : (s : List ℕ) (from : ℕ) (r : Next) → Reads s from r → tokens (drop from s) ≡ all_from (meant s r)
tokens_read s from r R = tokens_next (drop from s) ∙ ap all_from (sym R.says)
