-- What a steps text hands back and leaves in the store and in the working slice, on any slices. Assumes nothing.
use Rattle.std.specs.Prelude.{◌≡◌, List, ℕ, ◌+◌, ◌*◌, ◌≤◌, length, replicate}
use Rattle.akl.specs.Base.{ok}
use Rattle.akl.specs.Limits.{most_parts}
use Rattle.akl.specs.StepsText.{Step, read_steps}
use Rattle.runs.specs.Outcomes.{Outcome}
use Rattle.store_calls.specs.Outcomes.{run_outcome}
use Rattle.store_calls.specs.Handed.{returned, counted}
use Rattle.store_lent.specs.Lent.{working_bytes}
use Rattle.rule_solve.specs.Idle.{Idle}
use Rattle.step_meant.specs.Deciding.{HoldsState}

-- how many steps are accepted and the refusal, of the call or of the next step, in one number: refusals are below 256
abbrev pub run_number : Outcome → ℕ
run_number o = 256 * counted o + returned o

-- t is the steps text, b the store's slice before it and b' after it, w the length of the working slice, x what is handed back
pub record RunTo (t b : List ℕ) (w : ℕ) (b' : List ℕ) (x : ℕ) : Type 0 where
  pub number : x ≡ run_number (run_outcome most_parts working_bytes b w t).told
  pub store : b' ≡ (run_outcome most_parts working_bytes b w t).store

-- "the working slice is zero after every call"
pub record RunCalled (t b u b' u' : List ℕ) (x : ℕ) : Type 0 where
  pub run : RunTo t b (length u) b' x
  pub working : u' ≡ replicate (length u) 0

-- nothing is refused before the first step is tried: neither the text nor a slice nor the store; and the solver's
-- tables are idle
pub record CanRun (t b u : List ℕ) : Type 0 where
  pub steps : List Step
  pub reads : read_steps t ≡ ok steps
  pub long : 245853 ≤ length b
  pub idle : Idle u
  pub holds : HoldsState b
