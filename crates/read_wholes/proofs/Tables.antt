-- The tables of a whole text, as the readers of its tokens are lent them: the codes L of the tokens, and a cell of bindings for
-- each number of a name. Assumes nothing.
use mathlib.Core.Path.{◌≡◌, refl, ap, ap₂, sym, ◌∙◌, subst}
use mathlib.Core.Logic.{◌⊎◌, inl, inr}
use mathlib.Core.List.{List, [], ◌∷◌, map}
use mathlib.Core.Option.{Option, some, none}
use Prim.Native.Nat.{ℕ, zero, suc, ◌+◌, ◌*◌, ◌/◌, ◌%◌, ◌-◌, ◌≤◌, ◌<◌}
use native.Mathlib.Nat.{not-suc-le-zero, le_of_suc-le-suc}
use native.Mathlib.Omega.{arith}
use lib.ListN.{length, get_or, take, replicate, length-replicate}
use lib.Seq.{length-take-le, get_or-take}
use Rattle.mem_numbers.specs.Stored.{get_d_any}
use Rattle.constraint.specs.Constraint.{In}
use Rattle.akl.specs.Base.{Name, ◌>>=◌}
use Rattle.akl.specs.Token.{Token, tokens}
use Rattle.mem_numbers.specs.Numbers.{shorts, triples, length_shorts, length_triples}
use Rattle.mem_numbers.specs.Prefix.{triples_prefix}
use Rattle.mem_words.specs.declared.Word.{Word}
use Rattle.mem_words.specs.Words.{words, length_words}
use Rattle.read_nodes.specs.Spell.{named}
use Rattle.read_trie.specs.Names.{one_number}
use Rattle.read_phrases.specs.Codes.{Known, number_at, toks}
use Rattle.read_phrases.specs.Phrases.{Reserved}
use Rattle.read_scopes.specs.Scopes.{bound_zero}
use Rattle.read_emits.specs.Out.{seg}
use Rattle.read_pieces.specs.Reads.{Scope, Spelling, heads}
use Rattle.read_texts.specs.declared.Readable.{Readable}
use Rattle.read_texts.specs.declared.Readable.TheVariants.{Yes}
use Rattle.read_texts.specs.Texts.{Answered}
use Rattle.read_wholes.proofs.Spelled.{numbered, numbering}

-- ---------------------------------------------------------------------------------------------
-- Bytes as numbers and words.

-- bytes of the same length have as many
pub as_many_shorts : (b b' : List ℕ) → length b' ≡ length b → length (shorts b') ≡ length (shorts b)
as_many_shorts b b' e = length_shorts b' ∙ ap (λ (n : ℕ). n / 2) e ∙ sym (length_shorts b)

pub as_many_words : (b b' : List ℕ) → length b' ≡ length b → length (words b') ≡ length (words b)
as_many_words b b' e = length_words b' ∙ ap (λ (n : ℕ). n / 3) e ∙ sym (length_words b)

-- the table of bindings made zero: no name is bound
pub record Zeroed (B B₁ : List ℕ) : Type 0 where
  pub scope : Scope B₁ [] 0
  pub long : length B₁ ≡ length B

pub zeroed : (b b₁ : List ℕ) → b₁ ≡ replicate (length b) 0 → Zeroed (shorts b) (shorts b₁)
zeroed b b₁ e =
    let l : length b₁ ≡ length b = ap length e ∙ length-replicate (length b) 0 in
    record {
      scope = subst (λ (l : List ℕ). Scope (shorts l) [] 0) (sym e) (record { bound = bound_zero (length b); size = refl; below = λ x h. absurd h });
      long = as_many_shorts b b₁ l;
    }

pub zeroed_spells : {B B₁ : List ℕ} {w : ℕ → Name} {num : Name → ℕ} → Zeroed B B₁ → Spelling w num (length B) → Spelling w num (length B₁)
zeroed_spells {w = w} {num = num} z s = subst (Spelling w num) (sym z.long) s

pub seg_whole : (O : List Word) (k : ℕ) → seg O 0 k ≡ take k O
unfolding seg
seg_whole O k = let e : k - 0 ≡ k = omega arith in ap (λ (n : ℕ). take n O) e

-- heads are the same by spellings that agree on them
pub heads_same : (D : List ℕ) (w v : ℕ → Name) → ((c : ℕ) → In c D → w (c / 256) ≡ v (c / 256)) → heads w D ≡ heads v D
heads_same [] w v h = refl
heads_same (c ∷ D) w v h = ap₂ ◌∷◌ (ap (λ (x : Name). (x, c % 256)) (h c (inl refl))) (heads_same D w v (λ d i. h d (inr i)))

-- ---------------------------------------------------------------------------------------------
-- What is lent: of a text within the limit, whose tree is what `parse` says of its tokens.

pub record Lent (K' : List ℕ) (k m : ℕ) (L B₁ : List ℕ) : Type 0 where
  pub codes : L ≡ take k K'
  pub binds : length B₁ ≡ m

module _ {A : Type 0} {limit : ℕ} {parse : List Token → Option A} {text K N H S T : List ℕ} {n : ℕ} where
  -- the answer on the text, by its equation
  pub answered : {K' N' H' S' : List ℕ} {r s : Readable} → r ≡ s → Answered limit parse text K N H S n T K' N' H' S' r → Answered limit parse text K N H S n T K' N' H' S' s
  answered {K'} {N'} {H'} {S'} e Z = subst (Answered limit parse text K N H S n T K' N' H' S') e Z

  module _ {N' H' S' : List ℕ} {k m : ℕ} (c : List ℕ) (a : Answered limit parse text K N H S n T (triples c) N' H' S' (Yes k m)) where
    pub codes_there : 3 * k ≤ length c
    codes_there = omega (arith, a.answer.entries.table.inside, length_triples c)

    pub codes_length : 3 * k ≡ length (take (3 * k) c)
    codes_length = sym (length-take-le (3 * k) c codes_there)

    pub binds_there : (b : List ℕ) → m ≤ length (shorts b) → 2 * m ≤ length b
    binds_there b h = omega (arith, length_shorts b)

    pub binds_length : (b : List ℕ) → m ≤ length (shorts b) → 2 * m ≡ length (take (2 * m) b)
    binds_length b h = sym (length-take-le (2 * m) b (binds_there b h))

    pub lent : (b : List ℕ) → m ≤ length (shorts b) → Lent (triples c) k m (triples (take (3 * k) c)) (shorts (take (2 * m) b))
    lent b h =
        record {
          codes = triples_prefix c k codes_there;
          binds = let e = binds_length b h in omega (arith, length_shorts (take (2 * m) b));
        }

  module _ {K' N' H' S' : List ℕ} {k m : ℕ} {L B₁ : List ℕ} (a : Answered limit parse text K N H S n T K' N' H' S' (Yes k m)) (l : Lent K' k m L B₁) where
    pub lent_long : length L ≡ k
    lent_long = ap length l.codes ∙ length-take-le k K' a.answer.entries.table.inside

    pub lent_known : Known L
    lent_known = subst Known (sym l.codes) a.answer.entries.known

    pub lent_ids : (i : ℕ) → i < length L → number_at L i < length B₁
    unfolding number_at
    lent_ids i h =
        let g : i < k = omega (arith, lent_long) in
        let e = length-take-le k K' a.answer.entries.table.inside in
        let f : get_or L i 255 ≡ get_or K' i 0 = ap (λ (t : List ℕ). get_or t i 255) l.codes ∙ get_d_any (take k K') i 255 0 (omega arith) ∙ get_or-take k K' i 0 g in
        omega (arith, (a.answer.entries.table.fit i g).number, l.binds)

    pub lent_cells : length B₁ ≤ 65536
    lent_cells = omega (arith, a.answer.entries.lexicon.trie.room.count, l.binds)

    pub lent_few : length L ≤ limit
    lent_few = omega (arith, a.answer.entries.table.short, a.answer.fits, lent_long)

    pub lent_short : length L ≤ length text
    lent_short = omega (arith, a.answer.entries.table.short, lent_long)

    -- what is said of the tokens is said of these codes, spelled by the trie
    pub lent_reserved : Reserved (named N') L
    lent_reserved = subst (Reserved (named N')) (sym l.codes) a.answer.entries.reserved

    pub lent_parses : parse (toks (named N') L 0) ≡ some a.answer.tree
    lent_parses = ap (λ (t : List ℕ). parse (toks (named N') t 0)) l.codes ∙ sym (ap (λ (o : Option (List Token)). o >>= parse) a.answer.entries.tokens) ∙ a.answer.reads

    pub lent_spelling : (num : Name → ℕ) → Spelling (named N') num m → Spelling (named N') num (length B₁)
    lent_spelling num s = subst (Spelling (named N') num) (sym l.binds) s

    pub lent_numbers : Spelling (named N') (numbered (named N') m) (length B₁)
    lent_numbers = lent_spelling (numbered (named N') m) (numbering (named N') m (λ i j h g e. one_number a.answer.entries.lexicon.trie i j h g e))
