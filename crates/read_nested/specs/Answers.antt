-- What the functions of the reader are asked and hand back. Assumes nothing.
use Rattle.std.specs.Prelude.{List, Bool, ℕ, ◌≤◌, ◌<◌}
use Rattle.mem_words.specs.declared.Word.{Word}
use Rattle.read_pieces.specs.Reads.{Piece, CanRead, ReadTo}
use Rattle.read_pieces.specs.declared.Read.{Read}

-- What a function of the reader hands back (a record, so that what stands in it can be inferred).
pub record Answer (p : Piece) (query : Bool) (L B S Q D : List ℕ) (O : List Word) (at k q level depth : ℕ) (B' S' Q' : List ℕ) (O' : List Word) (r : Read) : Type 0 where
  pub to : ReadTo p query L B S Q D O at k q level depth B' S' Q' O' r

-- what a clause needs besides: the kind of the first clause's operator
pub record CanClause (L B S Q D : List ℕ) (O : List Word) (at k q level kind : ℕ) : Type 0 where
  pub reads : CanRead L B S Q D O at k q level
  pub low : 11 ≤ kind
  pub high : kind < 14
