-- Bytes that are zero. Assumes nothing.
use Rattle.std.specs.Prelude.{◌≡◌, List, ℕ, ◌+◌, ◌<◌, ◌≤◌, length, get_or}

-- the bytes from a on up to e are zero
abbrev pub Zeros : List ℕ → ℕ → ℕ → Type 0
Zeros b a e = (i : ℕ) → a ≤ i → i < e → get_or b i 0 ≡ 0

-- n bytes from i on are there
pub record Within (b : List ℕ) (i n : ℕ) : Type 0 where
  pub fits : i + n ≤ length b

-- r is 0 for a byte that is 0, else 1
pub record OneIf (x r : ℕ) : Type 0 where
  pub small : r ≤ 1
  pub is : r ≡ 0 → x ≡ 0

-- r counts bytes that are not zero among the k from i on
pub record Tallied (b : List ℕ) (i k r : ℕ) : Type 0 where
  pub small : r ≤ k
  pub is : r ≡ 0 → Zeros b i (i + k)

-- the bytes from a on up to r are zero
pub record ZeroTo (b : List ℕ) (a e r : ℕ) : Type 0 where
  pub low : a ≤ r
  pub high : r ≤ e
  pub zero : Zeros b a r
