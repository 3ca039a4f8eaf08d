-- Whether bytes are a text that is short enough and of the grammar. Assumes nothing.
use Rattle.std.specs.Prelude.{◌≡◌, refl, List, ℕ, ◌+◌, ◌*◌, ◌<◌, ◌≤◌, length, take}
use Rattle.std.proofs.Common.{ap, sym, ◌∙◌, subst, arith, length-take-le}
use Rattle.std.proofs.Math.Option.{Option, some, none}
use Rattle.akl.specs.Base.{Name, ◌>>=◌}
use Rattle.akl.specs.Token.{Token, tokens}
use Rattle.mem_numbers.specs.Numbers.{triples, length_triples}
use Rattle.mem_numbers.specs.Prefix.{triples_prefix}
use Rattle.read_nodes.specs.Spell.{named}
use Rattle.read_nodes.specs.Trie.{Roomy, Kept}
use Rattle.read_trie.specs.Outcome.{kept_none}
use Rattle.std.specs.Prelude as std
use Rattle.read_lexed.specs.declared.NotLexed.{NotLexed}
use Rattle.read_lexed.specs.declared.NotLexed.TheVariants as lexed
use Rattle.read_lexed.specs.Table.{Table, Tokenised}
use Rattle.read_phrases.specs.Codes.{Known, toks}
use Rattle.read_phrases.specs.Phrases.{Reserved}
use Rattle.read_statements.specs.declared.Unparsed.{Unparsed}
use Rattle.read_statements.specs.declared.Unparsed.TheVariants as unparsed
use Rattle.read_texts.specs.declared.Readable.{Readable}
use Rattle.read_texts.specs.declared.Readable.TheVariants.{Yes, Long, Odd, Short}
use Rattle.read_lexicon.specs.Lexicon.{Lexicon}
use Rattle.read_texts.specs.Entries.{Entries, entries}

-- the number of a refusal in document 01
abbrev pub refusal : Readable → Option ℕ
refusal (Yes k m) = none
refusal Long = some 1
refusal Odd = some 2
refusal Short = none

-- `limit` is the most bytes that a text may have, `parse` what its tokens are by the grammar.
-- The text has a tree, and its tokens are in the tables.
pub record Accepted {A : Type 0} (limit : ℕ) (parse : List Token → Option A) (text N : List ℕ) (n : ℕ) (K' N' H' S' : List ℕ) (k m : ℕ) : Type 0 where
  pub fits : length text ≤ limit
  pub entries : Entries text N n K' N' H' S' k m
  pub tree : A
  pub reads : (tokens text >>= parse) ≡ some tree

-- the tables or the stack D are too short: not so where there is an entry for each byte
abbrev pub Cramped : List ℕ → List ℕ → List ℕ → List ℕ → List ℕ → ℕ → List ℕ → Type 0
Cramped text K N H S n D = length text ≤ length K → length text ≤ length D → Roomy N H S (n + length text) → ⊥

abbrev pub Answer : {A : Type 0} → ℕ → (List Token → Option A) → List ℕ → List ℕ → List ℕ → List ℕ → List ℕ → ℕ → List ℕ → List ℕ → List ℕ → List ℕ → List ℕ → Readable → Type 0
Answer limit parse text K N H S n D K' N' H' S' (Yes k m) = Accepted limit parse text N n K' N' H' S' k m
Answer limit parse text K N H S n D K' N' H' S' Long = limit < length text
Answer limit parse text K N H S n D K' N' H' S' Odd = (length text ≤ limit) × ((tokens text >>= parse) ≡ none)
Answer limit parse text K N H S n D K' N' H' S' Short = (length text ≤ limit) × Cramped text K N H S n D

-- What a text's reader promises of its answer r: D is the stack.
pub record Answered {A : Type 0} (limit : ℕ) (parse : List Token → Option A) (text K N H S : List ℕ) (n : ℕ) (D K' N' H' S' : List ℕ) (r : Readable) : Type 0 where
  pub kept : Kept N H S N' H' S'
  pub codes : length K' ≡ length K
  pub answer : Answer limit parse text K N H S n D K' N' H' S' r

-- what the grammar's function says of a table L of tokens and a stack D
abbrev pub Judged : {A : Type 0} → (List Token → Option A) → List ℕ → List ℕ → std.Result (Unit {0}) Unparsed → Type 0
Judged {A} parse L D (std.Ok u) = (w : ℕ → Name) → Reserved w L → (t : A) × (parse (toks w L 0) ≡ some t)
Judged parse L D (std.Err unparsed.Odd) = (w : ℕ → Name) → Reserved w L → parse (toks w L 0) ≡ none
Judged parse L D (std.Err unparsed.Short) = length D < length L

module _ {A : Type 0} (limit : ℕ) (parse : List Token → Option A) where
  pub text_long : {text K N H S D : List ℕ} (n : ℕ) → limit < length text → Answered limit parse text K N H S n D K N H S Long
  text_long {text} {K} {N} {H} {S} n h = record { kept = kept_none N H S; codes = refl; answer = h }

  module _ {text K N H S K' N' H' S' : List ℕ} {n : ℕ} (h : length text ≤ limit) where
    pub text_bad : {D : List ℕ} → Tokenised text K N H S n K' N' H' S' (std.Err lexed.Bad) → Answered limit parse text K N H S n D K' N' H' S' Odd
    text_bad Z = record { kept = Z.kept; codes = Z.codes; answer = (h, ap (λ (o : Option (List Token)). o >>= parse) Z.answer) }

    pub text_full : {D : List ℕ} → Tokenised text K N H S n K' N' H' S' (std.Err lexed.Full) → Answered limit parse text K N H S n D K' N' H' S' Short
    text_full Z = record { kept = Z.kept; codes = Z.codes; answer = (h, λ g d q. Z.answer g q) }

    module _ {k m : ℕ} (X : Lexicon N H S n) (Z : Tokenised text K N H S n K' N' H' S' (std.Ok (k, m))) where
      E : Entries text N n K' N' H' S' k m
      E = entries X Z.answer

      -- what the tokens give, the text gives
      through : (o : Option A) → parse (toks (named N') (take k K') 0) ≡ o → (tokens text >>= parse) ≡ o
      through o e = ap (λ (o : Option (List Token)). o >>= parse) E.tokens ∙ e

      pub text_of : {D : List ℕ} → Judged parse (take k K') D (std.Ok tt) → Answered limit parse text K N H S n D K' N' H' S' (Yes k m)
      text_of J =
          let t = J (named N') E.reserved in
          record { kept = Z.kept; codes = Z.codes; answer = record { fits = h; entries = E; tree = t.0; reads = through (some t.0) t.1 } }

      pub text_not : {D : List ℕ} → Judged parse (take k K') D (std.Err unparsed.Odd) → Answered limit parse text K N H S n D K' N' H' S' Odd
      text_not J = record { kept = Z.kept; codes = Z.codes; answer = (h, through none (J (named N') E.reserved)) }

      pub text_narrow : {D : List ℕ} → Judged parse (take k K') D (std.Err unparsed.Short) → Answered limit parse text K N H S n D K' N' H' S' Short
      text_narrow J =
          record {
            kept = Z.kept;
            codes = Z.codes;
            answer = (h, λ g d q. let e = length-take-le k K' Z.answer.inside in omega (arith, Z.answer.short));
          }

-- the codes that are lent
pub lent_known : {text N N' H' S' : List ℕ} {n k m : ℕ} (b : List ℕ) → Entries text N n (triples b) N' H' S' k m → Known (triples (take (3 * k) b))
lent_known {k = k} b E = subst Known (sym (triples_prefix b k (omega (arith, E.table.inside, length_triples b)))) E.known

-- what is said of the codes that are lent is said of the first k codes
pub lent : {A : Type 0} (parse : List Token → Option A) (b D : List ℕ) (k : ℕ) (v : std.Result (Unit {0}) Unparsed) → 3 * k ≤ length b → Judged parse (triples (take (3 * k) b)) D v → Judged parse (take k (triples b)) D v
lent parse b D k v h J = subst (λ (L : List ℕ). Judged parse L D v) (triples_prefix b k h) J

-- the answers, by their equations
module _ {text K N H S K' N' H' S' : List ℕ} {n : ℕ} {r : std.Result (ℕ × ℕ) NotLexed} (Z : Tokenised text K N H S n K' N' H' S' r) where
  pub told_all : {k m : ℕ} → r ≡ std.Ok (k, m) → Tokenised text K N H S n K' N' H' S' (std.Ok (k, m))
  told_all e = subst (Tokenised text K N H S n K' N' H' S') e Z

  pub told_bad : r ≡ std.Err lexed.Bad → Tokenised text K N H S n K' N' H' S' (std.Err lexed.Bad)
  told_bad e = subst (Tokenised text K N H S n K' N' H' S') e Z

  pub told_full : r ≡ std.Err lexed.Full → Tokenised text K N H S n K' N' H' S' (std.Err lexed.Full)
  told_full e = subst (Tokenised text K N H S n K' N' H' S') e Z
