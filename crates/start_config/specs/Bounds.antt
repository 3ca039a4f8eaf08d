-- What may be written where. Assumes nothing.
use Rattle.std.specs.Prelude.{List, ℕ, ◌+◌, ◌≤◌, length}
use Rattle.mem_words.specs.declared.Word.{Word}
use Rattle.mem_words.specs.Words.{Small}

pub record CanThree (O : List Word) (k : ℕ) (a b c : Word) : Type 0 where
  pub room : k + 3 ≤ length O
  pub first : Small a
  pub second : Small b
  pub third : Small c

pub record CanFrees (O : List Word) (k v : ℕ) : Type 0 where
  pub room : k + v ≤ length O
  pub few : v ≤ 65536

pub record CanFirst (G : List Word) (b v : ℕ) (O : List Word) : Type 0 where
  pub source : b ≤ length G
  pub short : b ≤ 1048576
  pub few : v ≤ 65536
  pub room : 10 + v + b ≤ length O
