-- Calls on the bytes of a state, followed call by call: what each gets, and the bytes that it leaves.
use mathlib.Core.Path.{◌≡◌, refl, ap, sym, ◌∙◌, subst}
use mathlib.Core.List.{List, [], ◌∷◌, ◌++◌, append_assoc, map-append}
use mathlib.Core.Bool.{Bool, true, false}
use mathlib.Core.Option.{some}
use Prim.Native.Nat.{ℕ, zero, suc, ◌*◌}
use native.Mathlib.Omega.{arith}
use lib.Dec.{ltb}
use lib.ListN.{length, replicate, drop}
use lib.Seq.{drop-append_seam}
use Rattle.akl.specs.Base.{size, if}
use Rattle.akl.specs.Limits.{most_parts}
use Rattle.akl.specs.Syntax.{Program}
use Rattle.akl.specs.Configuration.{Config}
use Rattle.akl.specs.Answers.{answers}
use Rattle.akl.specs.StepsText.{Step}
use Rattle.akl.specs.Reader.{read_program}
use Rattle.runs.specs.Calls.{Call, Move, after_call, after_calls, calls_moves}
use Rattle.runs.specs.Outcomes.{outcome}
use Rattle.store_form.specs.State.{State, program_of, names_of, config_of}
use Rattle.store_form.specs.Form.{store_bytes}
use Rattle.store_form.proofs.Keeping.{with_config}
use Rattle.store_form.proofs.Reading.{bytes_length}
use Rattle.store_steps.specs.After.{Stands}
use Rattle.store_steps.proofs.Keeping.{calls_stand}
use Rattle.store_calls.specs.Outcomes.{Called, called, slices_short, held, put_state}
use Rattle.store_calls.specs.Handed.{returned, written}
use Rattle.store_calls.specs.Calls as bytes
use Rattle.store_calls.specs.Calls.{Asked, call_outcome, asked_meant, meant}
use Rattle.store_calls.proofs.OnBytes.{begin_long, begin_held, call_on_bytes}
use Rattle.store_lent.specs.Lent.{working_bytes}
use Rattle.start_outcome.specs.Outcome.{program_refusal, start_refusal, StoreAfter}
use Rattle.call_run.specs.Called.{run_number}
use Rattle.call_answer.specs.Called.{answer_told}
use Rattle.call_state.specs.Called.{state_told}
use Rattle.call_count.specs.Called.{count_told}
use Rattle.call_claim.specs.Host.{Request, for_step, for_run, for_answer, for_state, for_count, for_start, HostCall, Does, Did, History}
use Rattle.call_claim.specs.Seen.{accepted_of, accepted_steps}
use Rattle.call_claim.specs.HostRun.{short, stands_for, calls, Gets, CallGets}
use Rattle.call_claim.proofs.Accepting.{steps_taken, moves_parts, took}

-- Calls in two parts.
pub after_parts : (P : Program) (js ks : List Call) (c : Config) → after_calls most_parts P c (js ++ ks) ≡ after_calls most_parts P (after_calls most_parts P c js) ks
unfolding after_calls
after_parts P [] ks c = refl
after_parts P (j ∷ js) ks c = after_parts P js ks (after_call most_parts P c j)

pub calls_parts : (js ks : List HostCall) → calls (js ++ ks) ≡ calls js ++ calls ks
unfolding calls
calls_parts [] ks = refl
calls_parts (j ∷ js) ks = ap (λ (l : List Call). stands_for (short j) j.request ++ l) (calls_parts js ks) ∙ sym (append_assoc (stands_for (short j) j.request) (calls js) (calls ks))

-- where the calls of a request lead
abbrev pub leads : Program → Config → Bool → Request → Config
leads P d u r = after_calls most_parts P d (stands_for u r)

-- A start that is refused changes no store.
start_leaves : (t q b b' : List ℕ) (x : ℕ) → StoreAfter most_parts t q b b' x → (x ≡ 0 → ⊥) → b' ≡ b
start_leaves t q b b' zero h r = absurd (r refl)
start_leaves t q b b' (suc x) h r = h

module _ (rest : List ℕ) where
  -- the slice of a state
  abbrev pub slice : State → List ℕ
  slice s = store_bytes most_parts s ++ rest

  -- with another state's bytes it is the slice of that one
  pub put_slice : (s : State) → Stands most_parts s → (t : State) → put_state most_parts (slice s) t ≡ slice t
  unfolding put_state
  put_slice s w t =
      ap (λ (r : List ℕ). store_bytes most_parts t ++ r)
      (subst (λ (n : ℕ). drop n (slice s) ≡ rest) (bytes_length most_parts (omega arith) s w.fits) (drop-append_seam (store_bytes most_parts s) rest))

  module _ (s : State) (w : Stands most_parts s) where
    -- the slice after calls
    abbrev then : Bool → Request → List ℕ
    then u r = slice (with_config s (leads (program_of s) (config_of s) u r))

    -- a call by its outcome on the configuration
    on : (a : Asked) (v : ℕ) → let u = ltb v working_bytes in
        call_outcome most_parts working_bytes (slice s) (record { asked = a; working = v })
        ≡ called (outcome most_parts (program_of s) (names_of s) (config_of s) (asked_meant u a)) (slice (with_config s (after_call most_parts (program_of s) (config_of s) (asked_meant u a))))
    unfolding meant
    on a v = call_on_bytes most_parts (omega arith) working_bytes rest s w (record { asked = a; working = v })

    counted : (v : ℕ) (u : Bool) → ltb v working_bytes ≡ u → count_told (slices_short most_parts working_bytes (slice s) v) (held most_parts (slice s)) ≡ if u 8 (256 * size (answers (config_of s).root))
    counted v u e =
        ap (λ (x : Bool). count_told x (held most_parts (slice s))) (begin_long most_parts (omega arith) working_bytes rest s w.fits v u e)
        ∙ ap (count_told u) (begin_held most_parts (omega arith) working_bytes rest s w)
        ∙ same u
      where
        same : (z : Bool) → count_told z (some s) ≡ if z 8 (256 * size (answers (config_of s).root))
        same true = refl
        same false = refl

    start_refused : (t q : List ℕ) (v : ℕ) (u : Bool) → ltb v working_bytes ≡ u → start_refusal most_parts working_bytes t q (slice s) v ≡ program_refusal most_parts u q (read_program t)
    unfolding start_refusal
    start_refused t q v u e = ap (λ (x : Bool). program_refusal most_parts x q (read_program t)) (begin_long most_parts (omega arith) working_bytes rest s w.fits v u e)

    -- a question leaves the bytes, too short a working slice or not
    answer_leaves : (u : Bool) (n : ℕ) (o o' : List ℕ) → slice s ≡ then u (for_answer n o o')
    unfolding after_calls
    answer_leaves true n o o' = refl
    answer_leaves false n o o' = refl

    state_leaves : (u : Bool) → slice s ≡ then u for_state
    unfolding after_calls
    state_leaves true = refl
    state_leaves false = refl

    -- One request.
    does : (r : Request) (v v' : List ℕ) (x : ℕ) (d : List ℕ) → Does r v v' x (slice s) d →
        Gets (program_of s) (names_of s) (config_of s) (ltb (length v) working_bytes) r x × (v' ≡ replicate (length v) 0) × (d ≡ then (ltb (length v) working_bytes) r)
    unfolding call_outcome after_calls
    does (for_step k) v v' x d h =
        let e = on (bytes.for_step k) (length v) in
        (h.step.refusal ∙ ap (λ (r : Called). returned r.told) e, h.working, h.step.store ∙ ap (λ (r : Called). r.store) e)
    does (for_run t) v v' x d h =
        let e = on (bytes.for_run t) (length v) in
        (h.run.number ∙ ap (λ (r : Called). run_number r.told) e, h.working, h.run.store ∙ ap (λ (r : Called). r.store) e)
    does (for_answer n o o') v v' x d h =
        let e = on (bytes.for_answer n (length o)) (length v) in
        ((h.0.answer.number ∙ ap (λ (r : Called). answer_told r.told) e, h.0.answer.out ∙ ap (λ (r : Called). written o r.told) e), h.0.working, h.1 ∙ answer_leaves (ltb (length v) working_bytes) n o o')
    does for_state v v' x d h =
        let e = on bytes.for_state (length v) in
        (h.0.state.number ∙ ap (λ (r : Called). state_told r.told) e, h.0.working, h.1 ∙ state_leaves (ltb (length v) working_bytes))
    does for_count v v' x d h = (h.0.count.number ∙ counted (length v) (ltb (length v) working_bytes) refl, h.0.working, h.1)
    does (for_start t q) v v' x d h =
        (h.0.start.refusal ∙ start_refused t q (length v) (ltb (length v) working_bytes) refl, h.0.working, start_leaves t q (slice s) d x h.0.start.store h.1)

  -- One call: what it gets,
  did_gets : (s : State) → Stands most_parts s → (k : HostCall) (d : List ℕ) → Did k (slice s) d → CallGets (program_of s) (names_of s) (config_of s) k
  did_gets s w k d h = let r = does s w k.request k.work k.work' k.returned d h in record { gets = r.0; working = r.1 }

  -- the state that it leads to, which stands,
  abbrev next : State → HostCall → State
  next s k = with_config s (leads (program_of s) (config_of s) (short k) k.request)

  next_stands : (s : State) → Stands most_parts s → (k : HostCall) → Stands most_parts (next s k)
  next_stands s w k = calls_stand most_parts (omega arith) s w (stands_for (short k) k.request)

  -- and the calls from there.
  goes_on : (s : State) → Stands most_parts s → (k : HostCall) (ks : List HostCall) (c : List ℕ) → History (slice s) (k ∷ ks) c → History (slice (next s k)) ks c
  goes_on s w k ks c h = subst (λ (x : List ℕ). History x ks c) (does s w k.request k.work k.work' k.returned h.0 h.1).2 h.2

  -- Every call gets what the definitions say on the configuration that those before it lead to.
  pub history_gets : (js : List HostCall) (s : State) → Stands most_parts s → (k : HostCall) (ls : List HostCall) (c : List ℕ) → History (slice s) (js ++ (k ∷ ls)) c →
      CallGets (program_of s) (names_of s) (after_calls most_parts (program_of s) (config_of s) (calls js)) k
  unfolding calls after_calls
  history_gets [] s w k ls c h = did_gets s w k h.0 h.1
  history_gets (j ∷ js) s w k ls c h =
      subst (λ (d : Config). CallGets (program_of s) (names_of s) d k) (sym (after_parts (program_of s) (stands_for (short j) j.request) (calls js) (config_of s)))
      (history_gets js (next s j) (next_stands s w j) k ls c (goes_on s w j (js ++ (k ∷ ls)) c h))

  -- The bytes at the end are those of the configuration that the calls lead to.
  pub history_ends : (ks : List HostCall) (s : State) → Stands most_parts s → (c : List ℕ) → History (slice s) ks c →
      c ≡ slice (with_config s (after_calls most_parts (program_of s) (config_of s) (calls ks)))
  unfolding calls after_calls
  history_ends [] s w c h = sym h
  history_ends (k ∷ ks) s w c h =
      history_ends ks (next s k) (next_stands s w k) c (goes_on s w k ks c h)
      ∙ sym (ap (λ (d : Config). slice (with_config s d)) (after_parts (program_of s) (stands_for (short k) k.request) (calls ks) (config_of s)))

  -- The steps that were seen accepted are those that the calls take.
  pub history_accepts : (ks : List HostCall) (s : State) → Stands most_parts s → (c : List ℕ) → History (slice s) ks c →
      steps_taken (calls_moves most_parts (program_of s) (config_of s) (calls ks)) ≡ accepted_steps ks
  unfolding calls calls_moves accepted_steps
  history_accepts [] s w c h = refl
  history_accepts (k ∷ ks) s w c h =
      let ms = calls_moves most_parts (program_of s) (config_of s) (stands_for (short k) k.request) in
      let ns = calls_moves most_parts (program_of s) (leads (program_of s) (config_of s) (short k) k.request) (calls ks) in
      ap (λ (l : List Move). steps_taken l) (moves_parts (program_of s) (stands_for (short k) k.request) (calls ks) (config_of s))
      ∙ map-append (λ (m : Move). m.taken) ms ns
      ∙ ap (λ (l : List Step). l ++ steps_taken ns) (took (program_of s) (names_of s) (config_of s) (short k) k.request k.returned (did_gets s w k h.0 h.1).gets)
      ∙ ap (λ (l : List Step). accepted_of k.request k.returned ++ l) (history_accepts ks (next s k) (next_stands s w k) c (goes_on s w k ks c h))
