-- Tries in tables: N the cells, H the first children, S the next siblings, n how many nodes there are. Assumes nothing.
use Rattle.std.specs.Prelude.{◌≡◌, List, ℕ, ◌/◌, ◌<◌, ◌≤◌, length, get_or}

-- node i is in the chain of next siblings that begins at q
pub data Chained (S : List ℕ) (i : ℕ) : ℕ → Type 0 where
  here : (q : ℕ) → q ≡ i → Chained S i q
  later : (q : ℕ) → 0 < q → Chained S i (get_or S q 0) → Chained S i q

-- The tables have room for m nodes, and numbers of two bytes for them.
pub record Roomy (N H S : List ℕ) (m : ℕ) : Type 0 where
  pub cells : m ≤ length N
  pub heads : m ≤ length H
  pub nexts : m ≤ length S
  pub count : m ≤ 65536

pub record Trie (N H S : List ℕ) (n : ℕ) : Type 0 where
  -- the root is node 0
  pub root : 1 ≤ n
  -- every node has its entries
  pub room : Roomy N H S n
  -- a parent is lower, so that going up ends
  pub parents : (i : ℕ) → 0 < i → i < n → get_or N i 0 / 256 < i
  -- different nodes have different parents or bytes
  pub apart : (i j : ℕ) → 0 < i → i < n → 0 < j → j < n → get_or N i 0 ≡ get_or N j 0 → i ≡ j
  -- a next sibling is lower, so that a chain ends
  pub lower : (i : ℕ) → 0 < i → i < n → get_or S i 0 < i
  -- a first child is a node, or 0
  pub inside : (i : ℕ) → i < n → get_or H i 0 < n
  -- every node is found from its parent
  pub chained : (i : ℕ) → 0 < i → i < n → Chained S i (get_or H (get_or N i 0 / 256) 0)

-- The first n cells are as they were.
pub record Grown (N : List ℕ) (n : ℕ) (N' : List ℕ) (n' : ℕ) : Type 0 where
  pub more : n ≤ n'
  pub long : length N' ≡ length N
  pub same : (i : ℕ) → i < n → get_or N' i 0 ≡ get_or N i 0

-- The tables are as long as they were.
pub record Kept (N H S N' H' S' : List ℕ) : Type 0 where
  pub cells : length N' ≡ length N
  pub heads : length H' ≡ length H
  pub nexts : length S' ≡ length S
