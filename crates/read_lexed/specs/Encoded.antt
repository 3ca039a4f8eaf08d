-- What coding one token promises. Assumes nothing.
use Rattle.std.specs.Prelude.{◌≡◌, List, ℕ, ◌+◌, ◌*◌, ◌/◌, ◌%◌, ◌<◌, ◌≤◌, take, drop}
use Rattle.std.proofs.Common.{ap, ◌∙◌, arith}
use Rattle.read_tokens.specs.declared.Kind.{Kind}
use Rattle.read_tokens.specs.Kinds.{token_of}
use Rattle.std.specs.Prelude as std
use Rattle.read_nodes.specs.Spell.{named}
use Rattle.read_nodes.specs.Trie.{Roomy, Trie, Grown, Kept}
use Rattle.read_trie.specs.Names.{grown_none}
use Rattle.read_names.specs.Interning.{CanIntern, Interned}
use Rattle.read_trie.specs.Outcome.{kept_none}
use Rattle.read_lexed.specs.Codes.{kind_no, token_at, Fit, kind_small, mark_any, token_at_lem}
use Rattle.read_lexed.specs.Marks.{mark_in, mark_most, mark_none}

-- what may be coded: a token has a byte at least
pub record CanCode (text : List ℕ) (at len : ℕ) (N H S : List ℕ) (n : ℕ) : Type 0 where
  pub intern : CanIntern text at len N H S n
  pub some : 1 ≤ len

-- c is the code of the token of len bytes from `at` on
pub record Coded (text : List ℕ) (k : Kind) (at len : ℕ) (N : List ℕ) (n : ℕ) (N' H' S' : List ℕ) (c m : ℕ) : Type 0 where
  pub trie : Trie N' H' S' m
  pub grown : Grown N n N' m
  pub fit : Fit m c
  pub token : token_at N' c ≡ token_of k (take len (drop at text))
  pub few : m ≤ n + len
  -- a mark makes no node and has a byte
  pub spare : m + mark_in (token_of k (take len (drop at text))) ≤ n + len

abbrev pub Code : List ℕ → Kind → ℕ → ℕ → List ℕ → List ℕ → List ℕ → ℕ → List ℕ → List ℕ → List ℕ → std.Option (ℕ × ℕ) → Type 0
Code text k at len N H S n N' H' S' (std.Some (c, m)) = Coded text k at len N n N' H' S' c m
Code text k at len N H S n N' H' S' std.None = Roomy N H S (n + len) → ⊥

-- What `code` promises of its answer r: a code and the count of nodes, or no room.
pub record Encoded (text : List ℕ) (k : Kind) (at len : ℕ) (N H S : List ℕ) (n : ℕ) (N' H' S' : List ℕ) (r : std.Option (ℕ × ℕ)) : Type 0 where
  pub kept : Kept N H S N' H' S'
  pub code : Code text k at len N H S n N' H' S' r

pub coded_name : {text N H S N' H' S' : List ℕ} {at len n i m c : ℕ} (k : Kind) → 1 ≤ len → kind_no k < 3 → Interned text at len N H S n N' H' S' (std.Some (i, m)) → c ≡ kind_no k + i * 256 → Encoded text k at len N H S n N' H' S' (std.Some (c, m))
coded_name {text} {N} {H} {S} {N'} {H'} {S'} {at} {len} {n} {i} {m} {c} k g h I e =
    let A = I.number in
    let a : c % 256 ≡ kind_no k = omega arith in
    let b : c / 256 ≡ i = omega arith in
    let p = A.above g in
    record {
      kept = I.kept;
      code =
          record {
            trie = A.trie;
            grown = A.grown;
            fit = record { kind = omega arith; number = omega (arith, A.inside); above = λ z. omega arith; mark = λ z. absurd (omega arith) };
            token = token_at_lem N' k i c e ∙ ap (token_of k) A.name;
            few = A.few;
            spare = omega (arith, A.few, mark_none k (take len (drop at text)) h);
          };
    }

pub coded_full : {text N H S N' H' S' : List ℕ} {at len n : ℕ} (k : Kind) → Interned text at len N H S n N' H' S' std.None → Encoded text k at len N H S n N' H' S' std.None
coded_full k I = record { kept = I.kept; code = I.number }
