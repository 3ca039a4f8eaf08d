-- Nodes linked by their parents: a first child and next siblings, from the last node down. N are the cells, H the first children,
-- S the next siblings; 0 is none. Assumes nothing.
use Rattle.std.specs.Prelude.{◌≡◌, List, ℕ, ◌/◌, ◌<◌, ◌≤◌, length, get_or}
use Rattle.check_rooted.specs.Rooted.{Rooted}

abbrev pub parent : List ℕ → ℕ → ℕ
parent N i = get_or N i 0 / 256

-- a table of names as it may be looked at: rooted, and of no more nodes than a store has room for
pub record Nodes (N : List ℕ) : Type 0 where
  pub some : 0 < length N
  pub most : length N ≤ 20490
  pub rooted : Rooted N

-- no parent has a child yet
abbrev pub NoHeads : List ℕ → Type 0
NoHeads H = (p : ℕ) → get_or H p 0 ≡ 0

-- The nodes below k are linked: a first child is the last node of its parent, a next sibling the last one before it.
pub record Linked (N H S : List ℕ) (k : ℕ) : Type 0 where
  pub head : (p : ℕ) → p < length N → (get_or H p 0 < k) × (0 < get_or H p 0 → parent N (get_or H p 0) ≡ p)
  pub last : (j : ℕ) → 0 < j → j < k → j ≤ get_or H (parent N j) 0
  pub below : (i : ℕ) → 0 < i → i < k → (get_or S i 0 < i) × (0 < get_or S i 0 → parent N (get_or S i 0) ≡ parent N i)
  pub next : (i j : ℕ) → 0 < i → i < k → 0 < j → j < i → parent N j ≡ parent N i → j ≤ get_or S i 0
