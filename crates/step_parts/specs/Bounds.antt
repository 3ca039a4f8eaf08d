-- A number for the x words in S that rule r built at i of words with at most u parts. That it is an upper bound of their parts, where it is at most
-- 2,048, is a law (step_store/proofs/Bounded: `bound-fits`). Assumes nothing.
use Rattle.std.specs.Prelude.{◌≡◌, true, false, List, ℕ, ◌+◌, ◌≤◌, ◌<◌, length, take}
use Rattle.mem_words.specs.declared.Word.{Word}
use Rattle.mem_words.specs.Words.{words}
use Rattle.rule_words.specs.Scans.{close}
use Rattle.rule_words.specs.Pieces.{cut}
use Rattle.store_parts.specs.declared.Among.TheVariants.{Others}
use Rattle.store_parts.specs.Counting.{parts_in}
use Rattle.step_fewer.specs.Adding.{adds_parts, itself}

-- the parts of the bracket that opens at i, with its End
unfoldable pub piece_parts : List Word → ℕ → ℕ
piece_parts W i = parts_in Others (cut i (close W i + 1) W)

pub record CanBound (S : List ℕ) (x u r i : ℕ) : Type 0 where
  pub room : 86016 ≤ length S
  pub few : u ≤ 2048
  -- what the rule put at i is a bracket that closes
  pub closed : itself r ≡ true → x ≤ 28672 → close (take x (words S)) i < x

-- the rule adds none; it adds at most those of what it put at i; nothing is known
pub data Bound (S : List ℕ) (x u r i q : ℕ) : Type 0 where
  kept : adds_parts r ≡ false → q ≡ u → Bound S x u r i q
  grown : itself r ≡ true → q ≡ u + piece_parts (take x (words S)) i → Bound S x u r i q
  unknown : 2048 < q → Bound S x u r i q
