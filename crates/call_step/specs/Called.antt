-- What a step hands back and leaves in the store and in the working slice, on any slices. Assumes nothing.
use Rattle.std.specs.Prelude.{◌≡◌, List, ℕ, length, replicate}
use Rattle.akl.specs.Limits.{most_parts}
use Rattle.akl.specs.StepsText.{Step}
use Rattle.store_calls.specs.Outcomes.{step_outcome}
use Rattle.store_calls.specs.Handed.{returned}
use Rattle.store_lent.specs.Lent.{working_bytes}

-- b is the store's slice before the step and b' after it, w the length of the working slice, x what is handed back
pub record StepTo (b : List ℕ) (w : ℕ) (k : Step) (b' : List ℕ) (x : ℕ) : Type 0 where
  pub refusal : x ≡ returned (step_outcome most_parts working_bytes b w k).told
  pub store : b' ≡ (step_outcome most_parts working_bytes b w k).store

-- "the working slice is zero after every call"
pub record StepCalled (b u : List ℕ) (k : Step) (b' u' : List ℕ) (x : ℕ) : Type 0 where
  pub step : StepTo b (length u) k b' x
  pub working : u' ≡ replicate (length u) 0
