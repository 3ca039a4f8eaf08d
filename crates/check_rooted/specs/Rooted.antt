-- A table of cells that begins with the root and where parents are below their nodes. Assumes nothing.
use Rattle.std.specs.Prelude.{◌≡◌, List, ℕ, length, get_or}
use Rattle.read_nodes.specs.Spell.{Lower}

pub record Rooted (N : List ℕ) : Type 0 where
  pub root : get_or N 0 0 ≡ 0
  pub lower : Lower N (length N)
