-- Tables that are lent for reading two texts: long enough for every text of their length, the table of names exactly so. Assumes nothing.
use Rattle.std.specs.Prelude.{◌≡◌, List, ℕ, ◌+◌, ◌≤◌, length}
use Rattle.mem_words.specs.declared.Word.{Word}
use Rattle.read_inputs.specs.Inputs.{Ample}

pub record Lent (text query N D : List ℕ) (R : List Word) (Q : List ℕ) (G : List Word) (K H S T B Z : List ℕ) : Type 0 where
  pub ample : Ample text query N D R Q G K H S T B Z
  pub cells : length N ≡ 9 + length text + length query
  pub short : length text ≤ 16384
  pub goal : length G ≤ 65536
