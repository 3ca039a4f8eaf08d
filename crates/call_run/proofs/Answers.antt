-- Steps of a text that are tried line by line on a store, from the first to the last or to one that is refused. Assumes nothing.
use mathlib.Core.Path.{◌≡◌, refl, sym, ap, ◌∙◌, subst}
use mathlib.Core.List.{List, ◌∷◌}
use mathlib.Core.Option.{some}
use Prim.Native.Nat.{ℕ, zero, suc, ◌+◌, ◌*◌, ◌≤◌, ◌<◌}
use native.Mathlib.Omega.{arith}
use native.Mathlib.Numerals.{add-one}
use lib.ListN.{length}
use Rattle.akl.specs.Limits.{most_parts}
use Rattle.akl.specs.StepsText as akl
use Rattle.read_tokens.specs.declared.Cursor.{Cursor}
use Rattle.read_steps.specs.declared.Step.{Step}
use Rattle.std.specs.Prelude as std
use Rattle.read_steps.specs.Lines.{step, LineRead}
use Rattle.runs.specs.Outcomes.{accepted}
use Rattle.store_form.specs.State.{State}
use Rattle.store_steps.specs.After.{stepped, states_after}
use Rattle.store_calls.specs.Outcomes.{Called, called, held, run_done, run_read, run_outcome}
use Rattle.store_calls.specs.Handed.{returned, counted}
use Rattle.store_calls.proofs.Any.{some_held}
use Rattle.store_calls.proofs.Kept.{put_back}
use Rattle.store_lent.specs.Lent.{working_bytes}
use Rattle.step_meant.specs.Deciding.{StepDone}
use Rattle.call_slices.proofs.Slices.{long_enough}
use Rattle.call_run.specs.Called.{run_number, RunTo, CanRun}
use Rattle.call_run.proofs.Text.{Left, all_left, none_left, next_left}
use Rattle.call_run.proofs.Steps.{step_accepted, step_refused, done_small, after_held, done_again, first_refused, first_accepted}

-- n steps of t, as far as `from`, were accepted on b₀ and left b; those that are left, tried on b, lead to what t does on b₀
pub record Ran (t b₀ : List ℕ) (w from n : ℕ) (b : List ℕ) : Type 0 where
  pub few : n ≤ from
  pub inside : from ≤ length t
  pub most : length t ≤ 16384
  pub left : List akl.Step
  pub behind : Left t from left
  pub state : State
  pub holds : held most_parts b ≡ some state
  pub same : run_outcome most_parts working_bytes b₀ w t ≡ run_done most_parts b (states_after most_parts state n left)

-- none was tried yet
pub ran_none : (t b u : List ℕ) → CanRun t b u → Ran t b (length u) 0 0 b
unfolding run_outcome
ran_none t b u C =
    let L = all_left t C.steps C.reads in
    let s = C.holds.state in
    record {
      few = omega arith;
      inside = omega arith;
      most = L.1;
      left = C.steps;
      behind = L.0;
      state = s;
      holds = C.holds.holds;
      same =
          ap (run_read most_parts working_bytes b (length u)) C.reads
          ∙ some_held most_parts working_bytes b (length u) (λ s. run_done most_parts b (states_after most_parts s 0 C.steps)) (long_enough b (length u) C.long C.idle.walk.laid.long) s C.holds.holds;
    }

module _ (t b₀ : List ℕ) (w from n : ℕ) (b : List ℕ) (R : Ran t b₀ w from n b) where
  told : (m : ℕ) (b' : List ℕ) → b' ≡ b → run_done most_parts b (states_after most_parts R.state n R.left) ≡ run_done most_parts b (stepped n m R.state) → RunTo t b₀ w b' (256 * n + m)
  unfolding returned counted
  told m b' q e =
      let a : run_outcome most_parts working_bytes b₀ w t ≡ called (accepted n m) b = R.same ∙ e ∙ ap (called (accepted n m)) (put_back most_parts (omega arith) b R.state R.holds) in
      record { number = sym (ap (λ (c : Called). run_number c.told) a); store = q ∙ sym (ap (λ (c : Called). c.store) a) }

  -- no line is left
  pub ran_end : length t ≤ from → RunTo t b₀ w b (256 * n)
  unfolding states_after
  ran_end g =
      let z : 256 * n + 0 ≡ 256 * n = omega arith in
      subst (RunTo t b₀ w b) z (told 0 b refl (ap (λ (ks : List akl.Step). run_done most_parts b (states_after most_parts R.state n ks)) (none_left t from R.left R.behind g)))

  -- the refusal of a step is a small number
  pub ran_small : (k : akl.Step) (x : ℕ) (b' : List ℕ) → StepDone b k x b' → x ≤ 15
  ran_small k x b' d = done_small b R.state R.holds k b' x d

  module _ (g : from < length t) (k : Step) (c : Cursor) (l : LineRead t from (std.Ok (k, c))) where
    next : (ls : List akl.Step) × (R.left ≡ step k ∷ ls) × Left t c.0 ls
    next = next_left t from R.left R.behind g k c l

    -- the step of the next line is refused
    pub ran_refused : (x : ℕ) (b' : List ℕ) → (x ≡ 0 → ⊥) → StepDone b (step k) x b' → RunTo t b₀ w b' (256 * n + x)
    ran_refused zero b' z d = absurd (z refl)
    ran_refused (suc m) b' z d =
        let r = step_refused b R.state R.holds (step k) b' m d in
        told (suc m) b' r.1 (ap (λ (ks : List akl.Step). run_done most_parts b (states_after most_parts R.state n ks)) next.1 ∙ ap (run_done most_parts b) (first_refused R.state n (step k) next.0 (suc m) r.0))

    -- it is accepted
    pub ran_more : (x : ℕ) (b' : List ℕ) → x ≡ 0 → StepDone b (step k) x b' → Ran t b₀ w c.0 (n + 1) b'
    ran_more x b' z d =
        let a = step_accepted b R.state R.holds (step k) b' (subst (λ (i : ℕ). StepDone b (step k) i b') z d) in
        let f = l.forward in
        let one : n + 1 ≡ suc n = add-one n in
        record {
          few = omega (arith, f.ahead, R.few);
          inside = f.inside;
          most = R.most;
          left = next.0;
          behind = next.2;
          state = a.0;
          holds = ap (held most_parts) a.2 ∙ after_held b R.state R.holds (step k) a.0 a.1;
          same =
              R.same
              ∙ ap (λ (ks : List akl.Step). run_done most_parts b (states_after most_parts R.state n ks)) next.1
              ∙ ap (run_done most_parts b) (first_accepted R.state n (step k) next.0 a.0 a.1)
              ∙ done_again b R.state R.holds (step k) a.0 a.1 (states_after most_parts a.0 (suc n) next.0)
              ∙ ap (λ (v : List ℕ). run_done most_parts v (states_after most_parts a.0 (suc n) next.0)) (sym a.2)
              ∙ ap (λ (i : ℕ). run_done most_parts b' (states_after most_parts a.0 i next.0)) (sym one);
        }
