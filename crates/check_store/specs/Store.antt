-- Refusal 9: whether bytes hold a well-formed state. Assumes nothing.
use Rattle.std.specs.Prelude.{◌≡◌, List, Bool, ℕ, ◌≤◌, length}
use Rattle.akl.specs.Base.{is_some}
use Rattle.akl.specs.Limits.{most_parts}
use Rattle.store_calls.specs.Outcomes.{held}

-- the slices are as long as documented
pub record LongEnough (b L : List ℕ) : Type 0 where
  pub store : 245853 ≤ length b
  pub working : 524288 ≤ length L

-- r says whether b holds a well-formed state
pub record Formed (b : List ℕ) (r : Bool) : Type 0 where
  pub is : r ≡ is_some (held most_parts b)
