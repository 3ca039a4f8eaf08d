-- The trie of the root alone. Assumes nothing.
use Rattle.std.specs.Prelude.{◌≡◌, Bool, true, false, List, ℕ, ◌<◌, get_or}
use Rattle.std.proofs.Common.{ap, ◌∙◌, arith}
use Rattle.mem_numbers.specs.Stored.{Stored, stored_same}
use Rattle.read_nodes.specs.Trie.{Roomy, Trie}

-- The empty trie is made, or the tables have no room for a root.
abbrev pub Started : List ℕ → List ℕ → List ℕ → Bool → Type 0
Started N H S true = Trie N H S 1
Started N H S false = Roomy N H S 1 → ⊥

-- a trie of the root alone
pub trie_start : {N H S H' : List ℕ} → Roomy N H S 1 → Stored H 0 0 H' → Trie N H' S 1
trie_start {N} {H} {S} {H'} R s =
    record {
      root = omega arith;
      room = record { cells = R.cells; heads = omega (arith, R.heads, s.long); nexts = R.nexts; count = R.count };
      parents = λ i g h. absurd (omega arith);
      apart = λ i j a b d f e. absurd (omega arith);
      lower = λ i g h. absurd (omega arith);
      inside = λ i h. first i (omega arith);
      chained = λ i g h. absurd (omega arith);
    }
  where
    first : (i : ℕ) → i ≡ 0 → get_or H' i 0 < 1
    first i e = let z : get_or H' i 0 ≡ 0 = ap (λ (j : ℕ). get_or H' j 0) e ∙ stored_same 0 s (omega (arith, R.heads)) in omega arith
