-- What a question for the state hands back, on any slices. Assumes nothing.
use Rattle.std.specs.Prelude.{◌≡◌, List, ℕ, ◌*◌, length, replicate}
use Rattle.akl.specs.Limits.{most_parts}
use Rattle.runs.specs.Outcomes.{Outcome, refusal, accepted, shown, stands}
use Rattle.store_calls.specs.Outcomes.{state_outcome}
use Rattle.store_lent.specs.Lent.{working_bytes}
use Rattle.answer_boxes.specs.Asked.{state_number}

-- the state and the refusal in one number: refusals are below 256
abbrev pub state_told : Outcome → ℕ
state_told (refusal n) = n
state_told (accepted n r) = 0
state_told (shown t) = 0
state_told (stands s) = 256 * state_number s

-- b is the store's slice, w the length of the working slice, x what is handed back
pub record StateTo (b : List ℕ) (w : ℕ) (x : ℕ) : Type 0 where
  pub number : x ≡ state_told (state_outcome most_parts working_bytes b w).told

-- "the working slice is zero after every call"
pub record StateCalled (b u u' : List ℕ) (x : ℕ) : Type 0 where
  pub state : StateTo b (length u) x
  pub working : u' ≡ replicate (length u) 0
