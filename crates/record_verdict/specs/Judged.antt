-- What a verdict says of three texts, on any slices. Assumes nothing.
--
-- t, q and k are the texts of the rules, the query and the steps; b is the store's slice before the call and b' after it, u and u' are
-- the working slice.
use Rattle.std.specs.Prelude.{◌≡◌, List, true, ℕ, length, replicate, Result, Ok, Err}
use Rattle.std.proofs.Math.Option.{some}
use Rattle.akl.specs.Base.{refused, ok}
use Rattle.akl.specs.Limits.{most_parts}
use Rattle.akl.specs.Syntax.{Program}
use Rattle.akl.specs.Reader.{Query, read_program, read_query}
use Rattle.akl.specs.StepsText.{Step, read_steps}
use Rattle.akl.specs.Record.{Checked, checked_run}
use Rattle.store_form.specs.State.{State, names_of, config_of}
use Rattle.store_calls.specs.Outcomes.{slices_short, held}
use Rattle.store_lent.specs.Lent.{working_bytes}
use Rattle.record_verdict.specs.declared.Ran.{Ran}
use Rattle.record_verdict.specs.declared.Untried.{Untried}
use Rattle.record_verdict.specs.declared.Untried.TheVariants.{Refused, Short}

-- The steps were tried: a are accepted, n is the refusal of the next one or 0, and the store holds the configuration that they lead to,
-- with the names of the query's variables.
pub record RanTo (t q k b' : List ℕ) (a n : ℕ) : Type 0 where
  pub checked : Checked
  pub is : checked_run most_parts t q k ≡ ok checked
  pub accepted : a ≡ checked.run.accepted
  pub refusal : n ≡ checked.run.refusal
  pub state : State
  pub holds : held most_parts b' ≡ some state
  pub names : names_of state ≡ checked.variables
  pub config : config_of state ≡ checked.run.config

-- A slice is too short for the start, and no text is refused.
pub record TooShort (t q k b : List ℕ) (w : ℕ) : Type 0 where
  pub short : slices_short most_parts working_bytes b w ≡ true
  pub program : Program
  pub query : Query
  pub steps : List Step
  pub reads_program : read_program t ≡ ok program
  pub reads_query : read_query program q ≡ ok query
  pub reads_steps : read_steps k ≡ ok steps

abbrev pub VerdictIs : List ℕ → List ℕ → List ℕ → List ℕ → ℕ → List ℕ → Result Ran Untried → Type 0
VerdictIs t q k b w b' (Err (Refused n)) = checked_run most_parts t q k ≡ refused n
VerdictIs t q k b w b' (Ok r) = RanTo t q k b' r.accepted r.refusal
VerdictIs t q k b w b' (Err Short) = TooShort t q k b w

pub record Judged (t q k b u b' u' : List ℕ) (v : Result Ran Untried) : Type 0 where
  pub verdict : VerdictIs t q k b (length u) b' v
  -- "the working slice is zero after every call"
  pub working : u' ≡ replicate (length u) 0
