-- What is left of a start when both texts are read: 8, 15, or the store written. Names as in start_lay: Laid; w is the length of the
-- working slice. Assumes nothing.
use Rattle.std.specs.Prelude.{◌≡◌, List, ℕ, ◌+◌, ◌*◌, ◌≤◌, ◌<◌, length, take}
use Rattle.std.proofs.Common.{sym, ap, ◌∙◌}
use Rattle.akl.specs.Limits.{most_parts}
use Rattle.mem_words.specs.declared.Word.{Word}
use Rattle.mem_words.specs.Words.{words}
use Rattle.mem_words.specs.Form.{NoBad}
use Rattle.store_parts.specs.declared.Among.TheVariants.{Others}
use Rattle.store_parts.specs.Counting.{parts_in}
use Rattle.store_pieces.proofs.Words.{words_prefix}
use Rattle.store_lent.specs.Lent.{store_bytes_lent, working_bytes}
use Rattle.start_lay.specs.Laid.{LaidOut}

-- the parts of the first configuration: the or-box, the and-box, its variables, its statement
unfoldable pub first_parts : ℕ → List Word → ℕ
first_parts v W = parts_in Others W + v + 2

pub record CanSettle (N R Q : List ℕ) (G : List Word) (m a v b : ℕ) : Type 0 where
  pub names : 3 * m ≤ length N
  pub rules : 3 * a ≤ length R
  pub together : m + a ≤ 53257
  pub variables : v ≤ length Q
  pub few_variables : v ≤ 16
  pub goal : b ≤ length G
  pub short : length G ≤ 65536
  pub good : NoBad (take b G)
  -- what has few parts has few words
  pub fits : first_parts v (take b G) ≤ most_parts → 10 + v + b ≤ 28672

pub data Settled (L N R Q : List ℕ) (W : List Word) (m a v w : ℕ) (X : List ℕ) : ℕ → Type 0 where
  store_short : length L < store_bytes_lent → X ≡ L → Settled L N R Q W m a v w X 8
  working_short : store_bytes_lent ≤ length L → w < working_bytes → X ≡ L → Settled L N R Q W m a v w X 8
  too_many : store_bytes_lent ≤ length L → working_bytes ≤ w → most_parts < first_parts v W → X ≡ L → Settled L N R Q W m a v w X 15
  written : store_bytes_lent ≤ length L → working_bytes ≤ w → first_parts v W ≤ most_parts → LaidOut L N R Q W m a v X → Settled L N R Q W m a v w X 0

-- the parts counted in the statement's words
pub first_counted : (G : List ℕ) (b v p : ℕ) → 3 * b ≤ length G → p ≡ parts_in Others (words (take (3 * b) G)) → first_parts v (take b (words G)) ≡ p + v + 2
unfolding first_parts
first_counted G b v p h e = ap (λ (x : ℕ). x + v + 2) (sym (e ∙ ap (parts_in Others) (words_prefix G b h)))
