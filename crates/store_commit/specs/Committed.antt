-- A new configuration written into a store, for configurations of at most 2,048 parts: S are the bytes that begin with its n words,
-- next its next fresh number. Assumes nothing.
use Rattle.std.specs.Prelude.{◌≡◌, List, [], ◌∷◌, ◌++◌, ℕ, ◌+◌, ◌*◌, ◌≤◌, length, take, drop}
use Rattle.akl.specs.Limits.{most_parts}
use Rattle.mem_parts.specs.Parts.{cut}
use Rattle.store_form.specs.Sizes.{header_length, config_start, config_length, store_length}
use Rattle.store_form.specs.Form.{numbers_bytes, region}
use Rattle.check_zeros.specs.Zeros.{Zeros}
use Rattle.store_pieces.proofs.Numbers.{ByteList}

-- the header's first four numbers: the form, the counts of nodes, of the program's words and of the query's variables
abbrev pub kept_bytes : ℕ
kept_bytes = 12

-- the store's slice L with that configuration: what stands between the header and its region is kept, and so is what stands behind the store
unfoldable pub committed : List ℕ → List ℕ → ℕ → ℕ → List ℕ
committed L S n next =
    take kept_bytes L ++ (numbers_bytes (n ∷ next ∷ [])
    ++ (cut header_length config_start L ++ region (config_length most_parts) (take (3 * n) S) (drop (store_length most_parts) L)))

-- the configuration that stands there has `old` words, and all behind it is zero
pub record CanCommit (L S : List ℕ) (n old : ℕ) : Type 0 where
  pub store : 245853 ≤ length L
  pub source : 3 * n ≤ length S
  pub few : n ≤ 28672
  pub few_old : old ≤ 28672
  pub zeros : Zeros L (159837 + 3 * old) 245853

pub record Committed (L S : List ℕ) (n next : ℕ) (X : List ℕ) : Type 0 where
  pub list : X ≡ committed L S n next
  pub long : length X ≡ length L
  -- S was lent, so that it holds bytes
  pub bytes : ByteList S
