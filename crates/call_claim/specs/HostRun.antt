-- What holds of every list of calls of a host that begins with an accepted start: demand 3, with what the host sees. Assumes nothing.
use Rattle.std.specs.Prelude.{◌≡◌, List, [], ◌∷◌, ◌++◌, map, Bool, ℕ, ◌*◌, ltb, length, replicate}
use Rattle.std.proofs.Math.Option.{some}
use Rattle.akl.specs.Base.{Name, size, if, ok}
use Rattle.akl.specs.Limits.{most_parts}
use Rattle.akl.specs.Syntax.{Program}
use Rattle.akl.specs.StepsText.{read_steps}
use Rattle.akl.specs.Reader.{Query, read_program, read_query}
use Rattle.akl.specs.Configuration.{Config}
use Rattle.akl.specs.Record.{start}
use Rattle.akl.specs.Answers.{answers}
use Rattle.runs.specs.Calls.{Call, one_step, ask_answer, ask_state, Move, after_calls, calls_moves}
use Rattle.runs.specs.Outcomes.{outcome}
use Rattle.runs.specs.RunHolds.{RunHolds}
use Rattle.store_form.specs.State.{State, program_of, names_of, config_of}
use Rattle.store_calls.specs.Outcomes.{held, put_state}
use Rattle.store_calls.specs.Handed.{returned, written}
use Rattle.store_calls.specs.Calls.{unless_short, run_meant}
use Rattle.store_lent.specs.Lent.{working_bytes}
use Rattle.start_outcome.specs.Outcome.{program_refusal}
use Rattle.call_run.specs.Called.{run_number}
use Rattle.call_answer.specs.Called.{answer_told}
use Rattle.call_state.specs.Called.{state_told}
use Rattle.call_claim.specs.Host.{Request, for_step, for_run, for_answer, for_state, for_count, for_start, HostCall}
use Rattle.call_claim.specs.Seen.{accepted_steps}

-- the working slice is shorter than documented
abbrev pub short : HostCall → Bool
short k = ltb (length k.work) working_bytes

-- The calls on a configuration that a request stands for: one, refused with 8 for too short a working slice; none for a count and for
-- a refused start, which runs do not speak of.
abbrev pub stands_for : Bool → Request → List Call
stands_for s (for_step k) = unless_short s (one_step k) ∷ []
stands_for s (for_run t) = run_meant t s (read_steps t) ∷ []
stands_for s (for_answer n o o') = unless_short s (ask_answer n (length o)) ∷ []
stands_for s for_state = unless_short s ask_state ∷ []
stands_for s for_count = []
stands_for s (for_start t q) = []

unfoldable pub calls : List HostCall → List Call
calls [] = []
calls (k ∷ ks) = stands_for (short k) k.request ++ calls ks

-- What a request made on the configuration d gets: the number x, and for an answer the output slice. The store of a start in between is
-- long enough, since it holds a state: so only the working slice can be too short.
abbrev pub Gets : Program → List Name → Config → Bool → Request → ℕ → Type 0
Gets P xs d s (for_step k) x = x ≡ returned (outcome most_parts P xs d (unless_short s (one_step k)))
Gets P xs d s (for_run t) x = x ≡ run_number (outcome most_parts P xs d (run_meant t s (read_steps t)))
Gets P xs d s (for_answer n o o') x =
    (x ≡ answer_told (outcome most_parts P xs d (unless_short s (ask_answer n (length o)))))
    × (o' ≡ written o (outcome most_parts P xs d (unless_short s (ask_answer n (length o)))))
Gets P xs d s for_state x = x ≡ state_told (outcome most_parts P xs d (unless_short s ask_state))
Gets P xs d s for_count x = x ≡ if s 8 (256 * size (answers d.root))
Gets P xs d s (for_start t q) x = x ≡ program_refusal most_parts s q (read_program t)

-- "the working slice is zero after every call"
pub record CallGets (P : Program) (xs : List Name) (d : Config) (k : HostCall) : Type 0 where
  pub gets : Gets P xs d (short k) k.request k.returned
  pub working : k.work' ≡ replicate (length k.work) 0

-- text and query are the two texts, b is the store's slice after the start, ks are the calls and c is the store's slice at the end.
pub record HostRun (text query b : List ℕ) (ks : List HostCall) (c : List ℕ) : Type 0 where
  pub program : Program
  pub goal : Query
  pub config : Config
  pub reads_program : read_program text ≡ ok program
  pub reads_query : read_query program query ≡ ok goal
  pub starts : start most_parts goal ≡ ok config
  -- demand 3 on configurations
  pub run : RunHolds most_parts program goal config (calls ks)
  -- each call gets what the definitions say, on the configuration that those before it lead to
  pub each_call : (js : List HostCall) (k : HostCall) (ls : List HostCall) → ks ≡ js ++ (k ∷ ls) →
      CallGets program goal.variables (after_calls most_parts program config (calls js)) k
  -- the steps that the host sees accepted are those of the run, in their order
  pub accepted : map (λ (m : Move). m.taken) (calls_moves most_parts program config (calls ks)) ≡ accepted_steps ks
  -- The bytes at the end: those of a state that means the program, the query's names and the configuration that the calls lead to, and
  -- what stood behind the store. They hold that state.
  pub state : State
  pub means_program : program_of state ≡ program
  pub means_names : names_of state ≡ goal.variables
  pub means_config : config_of state ≡ after_calls most_parts program config (calls ks)
  pub bytes : c ≡ put_state most_parts b state
  pub holds : held most_parts c ≡ some state
