-- No two nodes with the same parent and byte, found by walking over each parent's children with a stamp for each byte. N are the cells,
-- T the stamps. Assumes nothing.
use Rattle.std.specs.Prelude.{◌≡◌, List, Bool, true, false, ℕ, ◌+◌, ◌/◌, ◌%◌, ◌<◌, ◌≤◌, length, get_or}

abbrev pub byte : List ℕ → ℕ → ℕ
byte N i = get_or N i 0 % 256

-- different nodes have different cells
abbrev pub Apart : List ℕ → Type 0
Apart N = (i j : ℕ) → 0 < i → i < length N → 0 < j → j < length N → get_or N i 0 ≡ get_or N j 0 → i ≡ j

-- i is a child of p, behind q
pub record Child (N : List ℕ) (p q i : ℕ) : Type 0 where
  pub some : 0 < i
  pub node : i < length N
  pub parent : get_or N i 0 / 256 ≡ p
  pub behind : q < i

-- children of p have different bytes, as far as they stand behind q
abbrev pub Differ : List ℕ → ℕ → ℕ → Type 0
Differ N p q = (i j : ℕ) → Child N p q i → Child N p q j → byte N i ≡ byte N j → i ≡ j

-- stamps up to p; none at all
abbrev pub AtMost : List ℕ → ℕ → Type 0
AtMost T p = (x : ℕ) → get_or T x 0 ≤ p

abbrev pub NoStamps : List ℕ → Type 0
NoStamps T = (x : ℕ) → get_or T x 0 ≡ 0

-- What a walk over the children of p promises.
abbrev pub Walks : List ℕ → ℕ → List ℕ → Bool → Type 0
Walks N p T true = Differ N p 0 × AtMost T (p + 1)
Walks N p T false = Apart N → ⊥
