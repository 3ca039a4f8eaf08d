-- What the start hands back and leaves in the store and in the working slice, on any texts and slices. Assumes nothing.
use Rattle.std.specs.Prelude.{◌≡◌, List, ℕ, length, replicate}
use Rattle.start_outcome.specs.Outcome.{StartTo}

-- "the working slice is zero after every call"
pub record StartCalled (text query b u b' u' : List ℕ) (r : ℕ) : Type 0 where
  pub start : StartTo text query b (length u) b' r
  pub working : u' ≡ replicate (length u) 0
