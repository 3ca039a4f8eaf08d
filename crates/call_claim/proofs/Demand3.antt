-- Demand 3 on the calls of a host, as one claim: whatever calls are made on a store after an accepted start, in any order, refused or
-- not. The store's slice is one and the same, of any length from the documented one on; working and output slices are any.
--
-- To understand it read, in this order:
--   specs/Host: Request, HostCall, Did, History
--     with the contracts that it names: StartCalled, StepCalled, RunCalled, AnswerCalled, StateCalled, CountCalled in specs/Called of
--     start_call, call_step, call_run, call_answer, call_state, call_count; these are what the exported functions ensure, word for word
--   start_outcome/specs/Outcome: StartTo, Started, program-refusal
--   specs/HostRun: calls, Gets, HostRun; specs/Seen: accepted-steps
--   runs/specs/Calls: Call, after-calls, calls-moves; runs/specs/Outcomes: outcome
--   runs/specs/RunHolds: RunHolds; runs/specs/CallHolds: CallHolds; runs/specs/Shown: ReadsAs, FitsText
--   outcomes as numbers and slices: store_calls/specs/Handed: returned, written; call_run: run-number, call_answer: answer-told,
--     call_state: state-told; store_calls/specs/Calls: unless-short, run-meant
--   the bytes: store_form/specs/State: State; store_form/specs/Form: store-bytes; store_calls/specs/Outcomes: put-state, held
--   theory/specs/Meaning: Solution, QuerySolution; and document 01 itself in akl/specs and constraint/specs.
-- What follows for a host, in demand 3's words: proofs/Used: fits-satisfies; proofs/Tables: table-exact, failed-has-none (specs/Table).
-- That it is not about nothing: proofs/Made: all-made. On document 01's record: proofs/RecordUsed.
use mathlib.Core.Path.{◌≡◌, ap, sym, ◌∙◌, subst}
use mathlib.Core.List.{List, ◌∷◌, ◌++◌}
use Prim.Native.Nat.{ℕ}
use native.Mathlib.Omega.{arith}
use lib.ListN.{drop}
use Rattle.akl.specs.Base.{Name}
use Rattle.akl.specs.Limits.{most_parts}
use Rattle.akl.specs.Syntax.{Program}
use Rattle.akl.specs.Configuration.{Config}
use Rattle.runs.specs.Calls.{after_calls, calls_moves}
use Rattle.runs.proofs.Demand3.{demand_3}
use Rattle.store_form.specs.Sizes.{store_length}
use Rattle.store_form.specs.State.{State, program_of, names_of, config_of}
use Rattle.store_form.proofs.Keeping.{with_config}
use Rattle.store_steps.specs.After.{Stands}
use Rattle.store_steps.proofs.Keeping.{calls_stand}
use Rattle.store_calls.specs.Outcomes.{held, put_state}
use Rattle.store_calls.proofs.OnBytes.{begin_held}
use Rattle.store_calls.proofs.Demand3.{begins_stands}
use Rattle.start_outcome.specs.Outcome.{Started}
use Rattle.store_lent.specs.Lent.{working_bytes}
use Rattle.start_call.specs.Called.{StartCalled}
use Rattle.call_claim.specs.Host.{HostCall, History}
use Rattle.call_claim.specs.Seen.{accepted_steps}
use Rattle.call_claim.specs.HostRun.{calls, CallGets, HostRun}
use Rattle.call_claim.proofs.Accepting.{steps_taken}
use Rattle.call_claim.proofs.Histories.{slice, put_slice, history_gets, history_ends, history_accepts}

-- From what an accepted start left.
module _ (text query b₀ b : List ℕ) (S : Started most_parts text query b₀ b) (ks : List HostCall) (c : List ℕ) (h : History b ks c) where
  abbrev s : State
  s = S.state

  -- what stands behind the store
  abbrev rest : List ℕ
  rest = drop (store_length most_parts) b₀

  begun : b ≡ slice rest s
  unfolding put_state
  begun = S.store

  stands : Stands most_parts s
  stands = begins_stands most_parts (omega arith) text query S.program S.goal S.config S.reads_program S.reads_query S.starts s S.begins

  from : History (slice rest s) ks c
  from = subst (λ (x : List ℕ). History x ks c) begun h

  -- by the program and the start that the state means
  leads_to : (js : List HostCall) → after_calls most_parts (program_of s) (config_of s) (calls js) ≡ after_calls most_parts S.program S.config (calls js)
  leads_to js =
      ap (λ (P : Program). after_calls most_parts P (config_of s) (calls js)) S.begins.program
      ∙ ap (λ (d : Config). after_calls most_parts S.program d (calls js)) S.begins.config

  gets : (js : List HostCall) (k : HostCall) (ls : List HostCall) → ks ≡ js ++ (k ∷ ls) → CallGets S.program S.goal.variables (after_calls most_parts S.program S.config (calls js)) k
  gets js k ls e =
      subst (λ (d : Config). CallGets S.program S.goal.variables d k) (leads_to js)
      (subst (λ (xs : List Name). CallGets S.program xs (after_calls most_parts (program_of s) (config_of s) (calls js)) k) S.begins.names
      (subst (λ (P : Program). CallGets P (names_of s) (after_calls most_parts (program_of s) (config_of s) (calls js)) k) S.begins.program
      (history_gets rest js s stands k ls c (subst (λ (l : List HostCall). History (slice rest s) l c) e from))))

  accepts : steps_taken (calls_moves most_parts S.program S.config (calls ks)) ≡ accepted_steps ks
  accepts =
      sym (ap (λ (P : Program). steps_taken (calls_moves most_parts P (config_of s) (calls ks))) S.begins.program ∙ ap (λ (d : Config). steps_taken (calls_moves most_parts S.program d (calls ks))) S.begins.config)
      ∙ history_accepts rest ks s stands c from

  -- the state at the end
  abbrev end : State
  end = with_config s (after_calls most_parts (program_of s) (config_of s) (calls ks))

  ends : c ≡ slice rest end
  ends = history_ends rest ks s stands c from

  pub host_run : HostRun text query b ks c
  host_run = record {
    program = S.program;
    goal = S.goal;
    config = S.config;
    reads_program = S.reads_program;
    reads_query = S.reads_query;
    starts = S.starts;
    run = demand_3 text query S.program S.goal S.config S.reads_program S.reads_query S.starts (calls ks);
    each_call = gets;
    accepted = accepts;
    state = end;
    means_program = S.begins.program;
    means_names = S.begins.names;
    means_config = leads_to ks;
    bytes = ends ∙ sym (put_slice rest s stands end) ∙ ap (λ (x : List ℕ). put_state most_parts x end) (sym begun);
    holds = ap (held most_parts) ends ∙ begin_held most_parts (omega arith) working_bytes rest end (calls_stand most_parts (omega arith) s stands (calls ks));
  }

-- text and query are the texts of the start, b₀ is the store's slice before it and b after it, u and u' the working slice; 0 says that
-- it was accepted.
pub demand_3_on_calls : (text query b₀ u b u' : List ℕ) → StartCalled text query b₀ u b u' 0 →
    (ks : List HostCall) (c : List ℕ) → History b ks c → HostRun text query b ks c
demand_3_on_calls text query b₀ u b u' S ks c h = host_run text query b₀ b S.start.store ks c h
