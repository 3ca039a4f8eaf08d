-- What is left of a step when its new configuration is built, as n words in S, with its next fresh number: 14, 15, or the store
-- written. Assumes nothing.
use Rattle.std.specs.Prelude.{◌≡◌, List, ℕ, suc, ◌+◌, ◌*◌, ◌≤◌, ◌<◌, length, take}
use Rattle.akl.specs.Limits.{last_number, most_parts}
use Rattle.mem_words.specs.Words.{words}
use Rattle.store_parts.specs.declared.Among.TheVariants.{Others}
use Rattle.store_parts.specs.Counting.{parts_in}
use Rattle.check_zeros.specs.Zeros.{Zeros}
use Rattle.store_commit.specs.Committed.{Committed}

-- as many words as a configuration within the limits can have
abbrev pub most_words : ℕ
most_words = 28672

-- L's configuration has `old` words; where `most` is within the limit the new one has at most so many parts
pub record CanSettle (L S : List ℕ) (n old most : ℕ) : Type 0 where
  pub store : 245853 ≤ length L
  -- there is room for them
  pub room : 86016 ≤ length S
  pub few_old : old ≤ most_words
  pub zeros : Zeros L (159837 + 3 * old) 245853
  pub fit : most ≤ most_parts → n ≤ most_words → parts_in Others (take n (words S)) ≤ most

pub data Settled (L S : List ℕ) (n next : ℕ) (X : List ℕ) : ℕ → Type 0 where
  number_over : suc last_number < next → X ≡ L → Settled L S n next X 14
  words_over : next ≤ suc last_number → most_words < n → X ≡ L → Settled L S n next X 15
  parts_over : next ≤ suc last_number → n ≤ most_words → most_parts < parts_in Others (take n (words S)) → X ≡ L → Settled L S n next X 15
  written : next ≤ suc last_number → n ≤ most_words → parts_in Others (take n (words S)) ≤ most_parts → Committed L S n next X → Settled L S n next X 0

-- what was written has at most p parts
pub record Written (S : List ℕ) (n p : ℕ) : Type 0 where
  pub few : parts_in Others (take n (words S)) ≤ p
  pub limit : p ≤ most_parts
