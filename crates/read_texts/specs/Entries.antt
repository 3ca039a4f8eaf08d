-- A text's table of codes as tokens, for those who read it: the two ways to say what a code stands for agree.
-- Assumes nothing.
use Rattle.std.specs.Prelude.{◌≡◌, refl, Bool, true, false, ◌&&◌, List, [], ◌∷◌, map, ℕ, zero, suc, ◌+◌, ◌/◌, ◌%◌, ◌<◌, ◌≤◌, eqb, length, get_or, take}
use Rattle.std.proofs.Math.Path.{ap}
use Rattle.std.proofs.Common.{ap₂, sym, ◌∙◌, not-suc-le-zero, le_of_suc-le-suc, arith, get_or-take, length-take-le, eq-eqb, eqb-true}
use Rattle.std.proofs.Math.Option.{some}
use Rattle.std.proofs.lemmas.Bool.{eqb-false}
use Rattle.mem_numbers.specs.Stored.{get_d_any}
use Rattle.akl.proofs.Names.{same_refl, same_eq}
use Rattle.akl.specs.Base.{Name, same, bytes}
use Rattle.akl.specs.Token.{tokens}
use Rattle.read_tokens.specs.Kinds.{token_of}
use Rattle.read_nodes.specs.Spell.{named}
use Rattle.read_nodes.specs.Trie.{Trie, Grown}
use Rattle.read_trie.specs.Names.{one_number}
use Rattle.read_lexed.specs.Codes.{kind_of, token_at, Fit}
use Rattle.read_lexed.specs.Table.{Table, map_first}
use Rattle.read_phrases.specs.Codes.{kinded, tok, toks, kind_at, number_at, Known, kind_inside}
use Rattle.read_phrases.specs.Phrases.{Reserved}
use Rattle.read_lexicon.specs.Lexicon.{Lexicon, lexicon_kept}

-- The first k codes of K' are the text's tokens, in a trie of m nodes that has grown from one of n.
pub record Entries (text N : List ℕ) (n : ℕ) (K' N' H' S' : List ℕ) (k m : ℕ) : Type 0 where
  pub table : Table text N n N' H' S' K' k m
  pub lexicon : Lexicon N' H' S' m
  pub tokens : tokens text ≡ some (toks (named N') (take k K') 0)
  pub known : Known (take k K')
  pub reserved : Reserved (named N') (take k K')

-- two numbers that w spells apart
same_name : (w : ℕ → Name) (x y : ℕ) → (w x ≡ w y → x ≡ y) → same (w x) (w y) ≡ eqb x y
same_name w x y h = go (eqb x y) refl (same (w x) (w y)) refl
  where
    go : (b : Bool) → eqb x y ≡ b → (s : Bool) → same (w x) (w y) ≡ s → s ≡ b
    go true e true f = refl
    go false e false f = refl
    go true e false f = sym f ∙ ap (λ (z : ℕ). same (w x) (w z)) (sym (eqb-true x y e)) ∙ same_refl (w x)
    go false e true f = absurd (eqb-false x y e (h (same_eq (w x) (w y) f)))

-- the kind of a number by its case, and by the number itself
kind_tok : (m : ℕ) (w : Name) → m < 14 → token_of (kind_of m) w ≡ kinded m w
unfolding kind_of
kind_tok zero w h = refl
kind_tok (suc zero) w h = refl
kind_tok (suc (suc zero)) w h = refl
kind_tok (suc (suc (suc zero))) w h = refl
kind_tok (suc (suc (suc (suc zero)))) w h = refl
kind_tok (suc (suc (suc (suc (suc zero))))) w h = refl
kind_tok (suc (suc (suc (suc (suc (suc zero)))))) w h = refl
kind_tok (suc (suc (suc (suc (suc (suc (suc zero))))))) w h = refl
kind_tok (suc (suc (suc (suc (suc (suc (suc (suc zero)))))))) w h = refl
kind_tok (suc (suc (suc (suc (suc (suc (suc (suc (suc zero))))))))) w h = refl
kind_tok (suc (suc (suc (suc (suc (suc (suc (suc (suc (suc zero)))))))))) w h = refl
kind_tok (suc (suc (suc (suc (suc (suc (suc (suc (suc (suc (suc zero))))))))))) w h = refl
kind_tok (suc (suc (suc (suc (suc (suc (suc (suc (suc (suc (suc (suc zero)))))))))))) w h = refl
kind_tok (suc (suc (suc (suc (suc (suc (suc (suc (suc (suc (suc (suc (suc zero))))))))))))) w h = refl
kind_tok (suc (suc (suc (suc (suc (suc (suc (suc (suc (suc (suc (suc (suc (suc m)))))))))))))) w h = absurd (omega arith)

pub token_tok : (N : List ℕ) (c : ℕ) → c % 256 < 14 → token_at N c ≡ tok (named N) c
unfolding token_at tok
token_tok N c h = kind_tok (c % 256) (named N (c / 256)) h

module _ {text N H S N' H' S' K' : List ℕ} {n k m : ℕ} (X : Lexicon N H S n) (T : Table text N n N' H' S' K' k m) where
  -- an entry of the table
  entry : (i : ℕ) → i < length (take k K') → get_or (take k K') i 255 ≡ get_or K' i 0
  entry i h =
      let e = length-take-le k K' T.inside in
      get_d_any (take k K') i 255 0 h ∙ get_or-take k K' i 0 (omega arith)

  fits : (i : ℕ) → i < length (take k K') → Fit m (get_or K' i 0)
  fits i h = let e = length-take-le k K' T.inside in T.fit i (omega arith)

  known' : Known (take k K')
  unfolding kind_at
  known' = record { kinds = λ i h. let f = (fits i h).kind in omega (arith, entry i h) }

  number' : (i : ℕ) → kind_at (take k K') i ≡ 0 → number_at (take k K') i < m
  unfolding number_at
  number' i e =
      let h = kind_inside (take k K') i (omega arith) in
      let f = (fits i h).number in
      omega (arith, entry i h)

  lexicon' : Lexicon N' H' S' m
  lexicon' = lexicon_kept X T.trie T.grown

  name' : (j : ℕ) (v : Name) → named N' j ≡ v → j < m → (i : ℕ) → kind_at (take k K') i ≡ 0 → same (named N' (number_at (take k K') i)) v ≡ eqb (number_at (take k K') i) j
  name' j v e h i z =
      ap (same (named N' (number_at (take k K') i))) (sym e)
      ∙ same_name (named N') (number_at (take k K') i) j (one_number T.trie (number_at (take k K') i) j (number' i z) h)

  tokens' : tokens text ≡ some (toks (named N') (take k K') 0)
  unfolding toks
  tokens' = T.says ∙ ap some (map_first (token_at N') (tok (named N')) k K' T.inside (λ j h. token_tok N' (get_or K' j 0) (T.fit j h).kind))

  pub entries : Entries text N n K' N' H' S' k m
  entries =
      let h = lexicon'.nodes in
      record {
        table = T;
        lexicon = lexicon';
        tokens = tokens';
        known = known';
        reserved = record { true = name' 4 (bytes "true") lexicon'.true (omega arith); fail = name' 8 (bytes "fail") lexicon'.fail (omega arith) };
      }
