-- The words of a program that was read: at most five for two bytes of its text; with the nodes of names at most three for a byte.
use mathlib.Core.Path.{◌≡◌, refl, ap, subst}
use mathlib.Core.List.{List, [], ◌∷◌, map}
use mathlib.Core.Bool.{Bool, true, false, not}
use mathlib.Core.Option.{Option, some, none, some-injective}
use Prim.Native.Nat.{ℕ, zero, suc, ◌+◌, ◌*◌, ◌<◌, ◌≤◌}
use native.Mathlib.Omega.{arith}
use lib.Dec.{T, ltb, nltb→le}
use lib.ListN.{length}
use Rattle.akl.specs.Base.{Name, size, least, if, Result, refused, ok, ◌>>=◌}
use Rattle.akl.specs.Limits.{program_bytes}
use Rattle.akl.specs.Syntax.{Program}
use Rattle.akl.specs.Token.{Token, class_of, Lexed, passed, token, bad, lexed, tokens_in, tokens}
use Rattle.akl.specs.Grammar.{Definition}
use Rattle.akl.specs.Parse.{parse_program}
use Rattle.akl.specs.Reader.{program_faults, definition_of, checked, read_program}
use Rattle.texts.specs.Printing.{program_tokens}
use Rattle.texts.proofs.OneReading.{program_reading}
use Rattle.read_lexed.specs.Marks.{marks}
use Rattle.layout.specs.Layout.{program_words}
use Rattle.store_texts.proofs.Trees.{program_few}
use Rattle.store_texts.proofs.Marks.{program_marked}

pub size_length : {A : Type 0} (l : List A) → size l ≡ length l
unfolding size
size_length [] = refl
size_length (x ∷ l) = omega (arith, size_length l)

nothing : {A : Type 0} (a : A) → ◌≡◌ {A = Option A} none (some a) → ⊥
nothing {A} a e = let z : ◌≡◌ {A = ℕ} 0 1 = ap (λ (o : Option A). elim o as (λ v. ℕ) [ none ↦ 0 | some x ↦ 1 ]) e in omega arith

refusing : {A : Type 0} (n : ℕ) (a : A) → ◌≡◌ {A = Result A} (refused n) (ok a) → ⊥
refusing {A} n a e = let z : ◌≡◌ {A = ℕ} 0 1 = ap (λ (o : Result A). elim o as (λ v. ℕ) [ refused n ↦ 0 | ok x ↦ 1 ]) e in omega arith

-- each turn makes at most one token
tokens_fewer : (n : ℕ) (l : List ℕ) (ts : List Token) → tokens_in n l ≡ some ts → length ts < n
unfolding tokens_in
tokens_fewer zero l ts e = absurd (nothing ts e)
tokens_fewer (suc n) [] ts e = let z : [] ≡ ts = some-injective [] ts e in subst (λ (u : List Token). length u < suc n) z (omega arith)
tokens_fewer (suc n) (x ∷ l) ts e = go (λ r us a. tokens_fewer n r us a) (lexed (class_of x) x l) e
  where
    one : ((r : List ℕ) (us : List Token) → tokens_in n r ≡ some us → length us < n) → (t : Token) (r : List ℕ) (o : Option (List Token)) → tokens_in n r ≡ o → (o >>= λ us. some (t ∷ us)) ≡ some ts → length ts < suc n
    one ih t r none a b = absurd (nothing ts b)
    one ih t r (some us) a b =
        let z : t ∷ us ≡ ts = some-injective (t ∷ us) ts b in
        let h = ih r us a in
        subst (λ (u : List Token). length u < suc n) z (omega (arith, h))

    go : ((r : List ℕ) (us : List Token) → tokens_in n r ≡ some us → length us < n) → (x : Lexed) → elim x as (λ v. Option (List Token)) [ passed r ↦ tokens_in n r | token t r ↦ tokens_in n r >>= (λ us. some (t ∷ us)) | bad ↦ none ] ≡ some ts → length ts < suc n
    go ih (passed r) a = let h = ih r ts a in omega (arith, h)
    go ih (token t r) a = one ih t r (tokens_in n r) refl a
    go ih bad a = absurd (nothing ts a)

pub few_tokens : (text : List ℕ) (ts : List Token) → tokens text ≡ some ts → length ts ≤ length text
unfolding tokens
few_tokens text ts e = let h = tokens_fewer (suc (size text)) text ts e in omega (arith, h, size_length text)

-- The tokens of a program that was read: at most five words for two, and at least half are marks.
record Counted (text : List ℕ) (num : Name → ℕ) (P : Program) : Type 0 where
  list : List Token
  of_text : tokens text ≡ some list
  words : 2 * length (program_words num P) ≤ 5 * length list
  half : length list ≤ 2 * marks list

counted : (text : List ℕ) (P : Program) → read_program text ≡ ok P → (num : Name → ℕ) → Counted text num P × (length text ≤ program_bytes)
unfolding read_program
counted text P e num = by_size (ltb program_bytes (size text)) refl e
  where
    same_program : (ds : List Definition) (o : Option ℕ) → elim o as (λ z. Result Program) [ none ↦ ok (map definition_of ds) | some n ↦ refused n ] ≡ ok P → map definition_of ds ≡ P
    same_program ds none q = ap (λ (z : Result Program). elim z as (λ v. Program) [ refused n ↦ [] | ok x ↦ x ]) q
    same_program ds (some n) q = absurd (refusing n P q)

    by_tokens : (o : Option (List Token)) → tokens text ≡ o → (ds : List Definition) → (o >>= parse_program) ≡ some ds → Counted text num (map definition_of ds)
    by_tokens none a ds b = absurd (nothing ds b)
    by_tokens (some ts) a ds b =
        let p = (program_reading text ts ds a).0 b in
        let k : length ts ≡ length (program_tokens ds) = ap length p.1 in
        let l : marks ts ≡ marks (program_tokens ds) = ap marks p.1 in
        record { list = ts; of_text = a; words = omega (arith, k, program_few num ds); half = omega (arith, k, l, program_marked ds) }

    by_tree : (o : Option (List Definition)) → (tokens text >>= parse_program) ≡ o → elim o as (λ z. Result Program) [ none ↦ refused 2 | some ds ↦ checked (program_faults ds) (map definition_of ds) ] ≡ ok P → Counted text num P
    by_tree none p q = absurd (refusing 2 P q)
    by_tree (some ds) p q = subst (Counted text num) (same_program ds (least (program_faults ds)) q) (by_tokens (tokens text) refl ds p)

    by_size : (b : Bool) → ltb program_bytes (size text) ≡ b → if b (refused 1) (elim (tokens text >>= parse_program) as (λ z. Result Program) [ none ↦ refused 2 | some ds ↦ checked (program_faults ds) (map definition_of ds) ]) ≡ ok P → Counted text num P × (length text ≤ program_bytes)
    by_size true a q = absurd (refusing 1 P q)
    by_size false a q =
        let h = nltb→le program_bytes (size text) (not_so (ltb program_bytes (size text)) a) in
        (by_tree (tokens text >>= parse_program) refl q, omega (arith, h, size_length text))
      where
        not_so : (b : Bool) → b ≡ false → T (not b)
        not_so true e = absurd (let z : ◌≡◌ {A = ℕ} 1 0 = ap (λ (b : Bool). elim b as (λ v. ℕ) [ false ↦ 0 | true ↦ 1 ]) e in omega arith)
        not_so false e = tt

-- A program that was read: its words, and its text's length.
pub program_words_few : (text : List ℕ) (P : Program) → read_program text ≡ ok P → (num : Name → ℕ) → (2 * length (program_words num P) ≤ 5 * length text) × (length text ≤ program_bytes)
program_words_few text P e num =
    let c = counted text P e num in
    (omega (arith, c.0.words, few_tokens text c.0.list c.0.of_text), c.1)

-- The nodes of names and the words of a program that was read: at most three for a byte of its text, as in `p,q,r`, n nodes being there
-- before. A mark has a byte and makes no node.
pub names_and_words_few : (text : List ℕ) (P : Program) → read_program text ≡ ok P → (num : Name → ℕ) → (m n : ℕ) → ((ts : List Token) → tokens text ≡ some ts → m + marks ts ≤ n + length text) → m + length (program_words num P) ≤ n + 3 * length text
names_and_words_few text P e num m n h =
    let c = (counted text P e num).0 in
    omega (arith, c.words, c.half, few_tokens text c.list c.of_text, h c.list c.of_text)
