-- Laws of the definitions of specs/Encoded.
use Rattle.std.specs.Prelude.{◌≡◌, List, ℕ, ◌+◌, ◌*◌, ◌≤◌, take, drop}
use Rattle.std.proofs.Common.{◌∙◌, arith}
use Rattle.read_tokens.specs.declared.Kind.{Kind}
use Rattle.read_tokens.specs.Kinds.{token_of}
use Rattle.std.specs.Prelude as std
use Rattle.read_nodes.specs.Spell.{named}
use Rattle.read_nodes.specs.Trie.{Trie}
use Rattle.read_trie.specs.Names.{grown_none}
use Rattle.read_trie.specs.Outcome.{kept_none}
use Rattle.read_lexed.specs.Codes.{kind_no, kind_small, mark_any, token_at_lem}
use Rattle.read_lexed.specs.Marks.{mark_most}
use Rattle.read_lexed.specs.Encoded.{Encoded}

pub coded_mark : {text N H S : List ℕ} {at len n c : ℕ} (k : Kind) → 1 ≤ len → Trie N H S n → 3 ≤ kind_no k → c ≡ kind_no k → Encoded text k at len N H S n N H S (std.Some (c, n))
coded_mark {text} {N} {H} {S} {at} {len} {n} {c} k g T h e =
    let s = kind_small k in
    let b : c ≡ kind_no k + 0 * 256 = omega arith in
    record {
      kept = kept_none N H S;
      code =
          record {
            trie = T;
            grown = grown_none N n;
            fit = record { kind = omega arith; number = omega (arith, T.root); above = λ z. absurd (omega arith); mark = λ z. omega arith };
            token = token_at_lem N k 0 c b ∙ mark_any k (named N 0) (take len (drop at text)) h;
            few = omega arith;
            spare = omega (arith, mark_most (token_of k (take len (drop at text))));
          };
    }
