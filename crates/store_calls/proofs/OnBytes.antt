-- Calls on the bytes of a state: each hands back what the definitions say of its configuration, and leaves the bytes of the state with
-- the configuration that they lead to.
use mathlib.Core.Path.{◌≡◌, refl, ap, sym, ◌∙◌, subst}
use mathlib.Core.List.{List, [], ◌∷◌, ◌++◌, map}
use mathlib.Core.Bool.{Bool, true, false, ◌||◌}
use mathlib.Core.Option.{Option, some, none}
use Prim.Native.Nat.{ℕ, ◌<◌, ◌≤◌}
use native.Mathlib.Omega.{arith}
use lib.Dec.{T, ltb, ltb→lt}
use lib.ListN.{length, take, drop, length-append}
use lib.Seq.{take-append_seam, drop-append_seam}
use Rattle.akl.specs.Base.{Result, refused, ok, when, ◌>>=◌}
use Rattle.akl.specs.StepsText.{Step, read_steps}
use Rattle.akl.specs.Configuration.{Config}
use Rattle.akl.specs.Step.{step, steps}
use Rattle.akl.specs.Answers.{answer, state}
use Rattle.runs.specs.Calls.{Call, stepped, texted, after_call, after_calls}
use Rattle.runs.specs.Outcomes.{Outcome, refusal, accepted, stands, outcome, outcomes}
use Rattle.runs.specs.Outcomes as runs
use Rattle.store_form.specs.Sizes.{store_length}
use Rattle.store_form.specs.State.{State, program_of, names_of, config_of, well_formed_state}
use Rattle.store_form.specs.Form.{store_bytes}
use Rattle.store_form.specs.Holding.{Fits, read_store}
use Rattle.store_form.proofs.Keeping.{with_config}
use Rattle.store_form.proofs.Reading.{bytes_length, store_back}
use Rattle.store_steps.specs.After.{Stands, with_result, state_after, states_after}
use Rattle.store_steps.proofs.Keeping.{steps_mean, calls_stand}
use Rattle.store_calls.specs.Outcomes.{Called, called, slices_short, held, put_state, step_done, step_outcome, run_done, run_read, run_outcome, answer_done, answer_outcome, state_outcome}
use Rattle.store_calls.specs.Calls.{Asked, for_step, for_run, for_answer, for_state, ByteCall, asked_outcome, call_outcome, bytes_after, outcomes_on, run_meant, asked_meant, meant}
use Rattle.store_calls.specs.OnBytes.{OnBytes}
use Rattle.store_calls.proofs.Any.{held_iff, short_first, some_held}

pub not_below : (x y : ℕ) → y ≤ x → ltb x y ≡ false
not_below x y h = go (ltb x y) refl
  where
    go : (u : Bool) → ltb x y ≡ u → u ≡ false
    go true e = absurd (omega (arith, ltb→lt x y (subst T (sym e) tt)))
    go false e = refl

module _ (limit : ℕ) (low : limit < 65536) (work : ℕ) (rest : List ℕ) where
  -- the slice of a state, and what stands in it
  abbrev slice : State → List ℕ
  slice s = store_bytes limit s ++ rest

  module _ (s : State) (F : Fits limit s) where
    long : length (store_bytes limit s) ≡ store_length limit
    long = bytes_length limit (omega arith) s F

    front : take (store_length limit) (slice s) ≡ store_bytes limit s
    front = subst (λ (n : ℕ). take n (slice s) ≡ store_bytes limit s) long (take-append_seam (store_bytes limit s) rest)

    behind : drop (store_length limit) (slice s) ≡ rest
    behind = subst (λ (n : ℕ). drop n (slice s) ≡ rest) long (drop-append_seam (store_bytes limit s) rest)

    -- It is long enough,
    pub begin_long : (v : ℕ) (u : Bool) → ltb v work ≡ u → slices_short limit work (slice s) v ≡ u
    unfolding slices_short
    begin_long v u e = ap (λ (x : Bool). x || ltb v work) (not_below (length (slice s)) (store_length limit) (omega (arith, long, length-append (store_bytes limit s) rest))) ∙ e

    -- holds nothing where the state is not well formed,
    pub begin_unformed : well_formed_state limit s ≡ false → held limit (slice s) ≡ none
    unfolding held
    begin_unformed e =
        ap (λ (l : List ℕ). read_store limit l >>= λ t. when (well_formed_state limit t) t) front
        ∙ ap (λ (o : Option State). o >>= λ t. when (well_formed_state limit t) t) (store_back limit (omega arith) s F)
        ∙ ap (λ (u : Bool). when u s) e

  module _ (s : State) (w : Stands limit s) where
    -- holds the state where it is,
    pub begin_held : held limit (slice s) ≡ some s
    begin_held = (held_iff limit (omega arith) (slice s) s).1 (record { is = front s w.fits; fits = w.fits }, w.formed)

    -- and with another state's bytes is the slice of that one.
    put_slice : (t : State) → put_state limit (slice s) t ≡ slice t
    unfolding put_state
    put_slice t = ap (λ (r : List ℕ). store_bytes limit t ++ r) (behind s w.fits)

    enough : (v : ℕ) (u : Bool) → ltb v work ≡ u → slices_short limit work (slice s) v ≡ u
    enough v u e = begin_long s w.fits v u e

    -- what a call on the configuration comes to, as bytes
    abbrev expected : Call → Called
    expected k = called (outcome limit (program_of s) (names_of s) (config_of s) k) (slice (with_config s (after_call limit (program_of s) (config_of s) k)))

    step_case : (r : Result Config) → step_done limit (slice s) (with_result s r) ≡ called (runs.step_outcome r) (slice (with_config s (stepped (config_of s) r)))
    step_case (refused n) = refl
    step_case (ok d) = ap (called (accepted 1 0)) (put_slice (with_config s d))

    answer_case : (r : Result (List ℕ)) → answer_done (slice s) r ≡ called (runs.answer_outcome r) (slice s)
    answer_case (refused n) = refl
    answer_case (ok t) = refl

    steps_case : (ks : List Step) → run_done limit (slice s) (states_after limit s 0 ks) ≡ called (runs.text_outcome limit (program_of s) (config_of s) (ok ks)) (slice (with_config s (texted limit (program_of s) (config_of s) (ok ks))))
    steps_case ks =
        let R = steps limit (program_of s) (config_of s) 0 ks in
        ap (run_done limit (slice s)) (steps_mean limit ks s 0)
        ∙ ap (called (accepted R.accepted R.refusal)) (put_slice (with_config s R.config))

    run_case : (v : ℕ) (u : Bool) → ltb v work ≡ u → (t : List ℕ) (r : Result (List Step)) → read_steps t ≡ r → run_read limit work (slice s) v r ≡ expected (run_meant t u r)
    run_case v u e t (refused n) q = sym (ap (λ (r : Result (List Step)). called (runs.text_outcome limit (program_of s) (config_of s) r) (slice (with_config s (texted limit (program_of s) (config_of s) r)))) q)
    run_case v true e t (ok ks) q = short_first limit work (slice s) v _ (enough v true e)
    run_case v false e t (ok ks) q =
        some_held limit work (slice s) v _ (enough v false e) s begin_held
        ∙ steps_case ks
        ∙ sym (ap (λ (r : Result (List Step)). called (runs.text_outcome limit (program_of s) (config_of s) r) (slice (with_config s (texted limit (program_of s) (config_of s) r)))) q)

    asked_case : (v : ℕ) (u : Bool) → ltb v work ≡ u → (a : Asked) → asked_outcome limit work (slice s) v a ≡ expected (asked_meant u a)
    unfolding step_outcome run_outcome answer_outcome state_outcome state_after
    asked_case v true e (for_step k) = short_first limit work (slice s) v _ (enough v true e)
    asked_case v false e (for_step k) =
        some_held limit work (slice s) v _ (enough v false e) s begin_held
        ∙ step_case (step limit (program_of s) (config_of s) k)
    asked_case v u e (for_run t) = run_case v u e t (read_steps t) refl
    asked_case v true e (for_answer n m) = short_first limit work (slice s) v _ (enough v true e)
    asked_case v false e (for_answer n m) =
        some_held limit work (slice s) v _ (enough v false e) s begin_held
        ∙ answer_case (answer (names_of s) (config_of s).root n m)
    asked_case v true e for_state = short_first limit work (slice s) v _ (enough v true e)
    asked_case v false e for_state = some_held limit work (slice s) v _ (enough v false e) s begin_held

    -- One call.
    pub call_on_bytes : (k : ByteCall) → call_outcome limit work (slice s) k ≡ expected (meant work k)
    unfolding call_outcome meant
    call_on_bytes k = asked_case k.working (ltb k.working work) refl k.asked

    call_stands : (k : Call) → Stands limit (with_config s (after_call limit (program_of s) (config_of s) k))
    unfolding after_calls
    call_stands k = calls_stand limit low s w (k ∷ [])

  -- Lists of calls.
  told_so : (ks : List ByteCall) (s : State) → Stands limit s → outcomes_on limit work (slice s) ks ≡ outcomes limit (program_of s) (names_of s) (config_of s) (map (meant work) ks)
  unfolding outcomes_on outcomes
  told_so [] s w = refl
  told_so (k ∷ ks) s w =
      let d = with_config s (after_call limit (program_of s) (config_of s) (meant work k)) in
      ap (λ (r : Called). r.told ∷ outcomes_on limit work r.store ks) (call_on_bytes s w k)
      ∙ ap (λ (l : List Outcome). outcome limit (program_of s) (names_of s) (config_of s) (meant work k) ∷ l) (told_so ks d (call_stands s w (meant work k)))

  bytes_so : (ks : List ByteCall) (s : State) → Stands limit s → bytes_after limit work (slice s) ks ≡ slice (with_config s (after_calls limit (program_of s) (config_of s) (map (meant work) ks)))
  unfolding bytes_after after_calls
  bytes_so [] s w = refl
  bytes_so (k ∷ ks) s w =
      let d = with_config s (after_call limit (program_of s) (config_of s) (meant work k)) in
      ap (λ (r : Called). bytes_after limit work r.store ks) (call_on_bytes s w k)
      ∙ bytes_so ks d (call_stands s w (meant work k))

  -- Calls on the bytes of a state are calls on its configuration, for every list of them.
  pub calls_on_bytes : (s : State) → Stands limit s → (ks : List ByteCall) → OnBytes limit work s rest ks
  calls_on_bytes s w ks =
      let e = calls_stand limit low s w (map (meant work) ks) in
      let d = with_config s (after_calls limit (program_of s) (config_of s) (map (meant work) ks)) in
      record {
        told = told_so ks s w;
        bytes = bytes_so ks s w;
        holds = ap (held limit) (bytes_so ks s w) ∙ begin_held d e;
        stand = e;
      }
