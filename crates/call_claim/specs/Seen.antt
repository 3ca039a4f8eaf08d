-- The steps that calls accepted, as their host sees them: from what it asked for and what was returned. Assumes nothing.
use Rattle.std.specs.Prelude.{List, [], ◌∷◌, ◌++◌, not, ℕ, zero, suc, ◌/◌, T, take}
use Rattle.akl.specs.Base.{Result, refused, ok}
use Rattle.akl.specs.StepsText.{Step, read_steps}
use Rattle.runs.specs.Calls.{prunes}
use Rattle.call_claim.specs.Host.{Request, for_step, for_run, for_answer, for_state, for_count, for_start, HostCall}

-- the steps of a text that was read
abbrev pub steps_of : Result (List Step) → List Step
steps_of (refused n) = []
steps_of (ok ks) = ks

-- A single step where 0 is returned; of a steps text the first, as many as the number divided by 256: "the accepted ones before the
-- refused one stand, and their number is returned".
abbrev pub accepted_of : Request → ℕ → List Step
accepted_of (for_step k) zero = k ∷ []
accepted_of (for_step k) (suc x) = []
accepted_of (for_run t) x = take (x / 256) (steps_of (read_steps t))
accepted_of (for_answer n o o') x = []
accepted_of for_state x = []
accepted_of for_count x = []
accepted_of (for_start t q) x = []

unfoldable pub accepted_steps : List HostCall → List Step
accepted_steps [] = []
accepted_steps (k ∷ ks) = accepted_of k.request k.returned ++ accepted_steps ks

-- None of the steps is a "condition and commit step (7, 8)".
abbrev pub NoneLoses : List Step → Type 0
NoneLoses [] = Unit {0}
NoneLoses (k ∷ ks) = T (not (prunes k.rule)) × NoneLoses ks
