-- The box around a position, with where its first two brackets close: an and-box's locals and its store. For any words.
-- Assumes nothing.
use Rattle.std.specs.Prelude.{◌≡◌, List, ℕ, ◌+◌, ◌≤◌, length}
use Rattle.mem_words.specs.declared.Word.{Word}
use Rattle.rule_words.specs.Scans.{close, around}

-- b is the box at a: its locals close at u, its store at s
pub record Within (W : List Word) (a b u s : ℕ) : Type 0 where
  pub box : b ≡ a
  pub locals : u ≡ close W (b + 1)
  pub locals_in : u ≤ length W
  pub store : s ≡ close W (u + 1)
  pub store_in : s ≤ length W

-- b is the box around i
pub record Found (W : List Word) (i b u s : ℕ) : Type 0 where
  pub box : b ≡ around W i
  pub near : b ≤ i
  pub locals : u ≡ close W (b + 1)
  pub locals_in : u ≤ length W
  pub store : s ≡ close W (u + 1)
  pub store_in : s ≤ length W

-- two brackets with their ends
pub record Noted (W : List Word) (o1 c1 o2 c2 : ℕ) : Type 0 where
  pub first : c1 ≡ close W o1
  pub second : c2 ≡ close W o2
