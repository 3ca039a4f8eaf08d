-- Lists of calls on the bytes of a state, as one claim, and demand 3 said of them. Assumes nothing.
use Rattle.std.specs.Prelude.{◌≡◌, List, ◌++◌, map, ℕ}
use Rattle.std.proofs.Math.Option.{some}
use Rattle.akl.specs.Syntax.{Program}
use Rattle.akl.specs.Reader.{Query}
use Rattle.akl.specs.Configuration.{Config}
use Rattle.runs.specs.Calls.{Call, after_calls}
use Rattle.runs.specs.Outcomes.{outcomes}
use Rattle.runs.specs.RunHolds.{RunHolds}
use Rattle.store_form.specs.State.{State, program_of, names_of, config_of}
use Rattle.store_form.specs.Form.{store_bytes}
use Rattle.store_form.specs.Holding.{Fits}
use Rattle.store_form.proofs.Keeping.{with_config}
use Rattle.store_steps.specs.After.{Stands}
use Rattle.store_calls.specs.Outcomes.{held}
use Rattle.store_calls.specs.Calls.{ByteCall, bytes_after, outcomes_on, meant}

-- A state that a run begins with: it has bytes, and means the program, the query's names and the start.
pub record Begins (limit : ℕ) (s : State) (P : Program) (query : Query) (c : Config) : Type 0 where
  pub program : program_of s ≡ P
  pub names : names_of s ≡ query.variables
  pub config : config_of s ≡ c
  pub fits : Fits limit s

-- The calls ks on a slice that begins with the bytes of the state s and goes on with rest.
module _ (limit work : ℕ) (s : State) (rest : List ℕ) (ks : List ByteCall) where
  abbrev begin : List ℕ
  begin = store_bytes limit s ++ rest

  abbrev calls : List Call
  calls = map (meant work) ks

  -- the state with the configuration that the calls lead to
  abbrev pub end_state : State
  end_state = with_config s (after_calls limit (program_of s) (config_of s) calls)

  pub record OnBytes : Type 0 where
    -- the calls hand back what the definitions say
    pub told : outcomes_on limit work begin ks ≡ outcomes limit (program_of s) (names_of s) (config_of s) calls
    -- and leave the bytes of where the definitions lead
    pub bytes : bytes_after limit work begin ks ≡ store_bytes limit end_state ++ rest
    -- which hold it
    pub holds : held limit (bytes_after limit work begin ks) ≡ some end_state
    pub stand : Stands limit end_state

  -- The same from the start c of a query, with demand 3.
  pub record RunOnBytes (P : Program) (query : Query) (c : Config) : Type 0 where
    pub told : outcomes_on limit work begin ks ≡ outcomes limit P query.variables c calls
    pub bytes : bytes_after limit work begin ks ≡ store_bytes limit (with_config s (after_calls limit P c calls)) ++ rest
    pub holds : held limit (bytes_after limit work begin ks) ≡ some (with_config s (after_calls limit P c calls))
    pub stand : Stands limit (with_config s (after_calls limit P c calls))
    pub run : RunHolds limit P query c calls
