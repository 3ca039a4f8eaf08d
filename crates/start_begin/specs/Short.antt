-- Texts within the limits, but for one byte more of the query, by which it is told from those that are within. Assumes nothing.
use Rattle.std.specs.Prelude.{List, ℕ, ◌≤◌, length}

pub record Within (text query : List ℕ) : Type 0 where
  pub program : length text ≤ 16384
  pub query_most : length query ≤ 4097
