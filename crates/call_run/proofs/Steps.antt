-- One step on a store that holds a state: where it leads when it is accepted, and what it leaves when it is refused. Assumes nothing.
use mathlib.Core.Path.{◌≡◌, refl, sym, ap, ◌∙◌, subst}
use mathlib.Core.List.{List, ◌∷◌, ◌++◌}
use mathlib.Core.Option.{some}
use Prim.Native.Nat.{ℕ, zero, suc, ◌≤◌}
use native.Mathlib.Omega.{arith}
use lib.ListN.{drop}
use lib.Seq.{drop-append_seam}
use Rattle.akl.specs.Base.{Result, refused, ok}
use Rattle.akl.specs.Limits.{most_parts}
use Rattle.akl.specs.StepsText.{Step}
use Rattle.runs.specs.Outcomes.{Outcome, refusal, accepted, shown, stands}
use Rattle.store_form.specs.Sizes.{store_length}
use Rattle.store_form.specs.State.{State}
use Rattle.store_form.specs.Form.{store_bytes}
use Rattle.store_form.proofs.Reading.{bytes_length}
use Rattle.store_steps.specs.After.{Stands, state_after, Stepped, stepped, states_after}
use Rattle.store_steps.proofs.Keeping.{after_stands}
use Rattle.store_calls.specs.Outcomes.{Called, called, held, put_state, step_done, run_done}
use Rattle.store_calls.proofs.Any.{held_stands}
use Rattle.store_calls.proofs.OnBytes.{begin_held}
use Rattle.step_meant.specs.Deciding.{StepDone}
use Rattle.call_run.proofs.Refusals.{refusal_small}

-- tells the outcomes of a step apart
abbrev form : Outcome → ℕ
form (refusal n) = suc n
form (accepted n r) = 0
form (shown t) = 0
form (stands s) = 0

module _ (b : List ℕ) (s : State) (h : held most_parts b ≡ some s) (k : Step) where
  -- a step that is accepted leads to a state, and its bytes are put into the store
  pub step_accepted : (b' : List ℕ) → StepDone b k 0 b' → (t : State) × (state_after most_parts s k ≡ ok t) × (b' ≡ put_state most_parts b t)
  step_accepted b' d = go (state_after most_parts s k) refl (d.right s h)
    where
      go : (r : Result State) → state_after most_parts s k ≡ r → step_done most_parts b r ≡ called (accepted 1 0) b' → (t : State) × (state_after most_parts s k ≡ ok t) × (b' ≡ put_state most_parts b t)
      go (refused n) e q = absurd (let z : suc n ≡ 0 = ap (λ (c : Called). form c.told) q in omega (arith, z))
      go (ok t) e q = (t, e, sym (ap (λ (c : Called). c.store) q))

  -- one that is refused leaves the store as it was
  pub step_refused : (b' : List ℕ) (n : ℕ) → StepDone b k (suc n) b' → (state_after most_parts s k ≡ refused (suc n)) × (b' ≡ b)
  step_refused b' n d = go (state_after most_parts s k) refl (d.right s h)
    where
      go : (r : Result State) → state_after most_parts s k ≡ r → step_done most_parts b r ≡ called (refusal (suc n)) b' → (state_after most_parts s k ≡ refused (suc n)) × (b' ≡ b)
      go (refused m) e q =
          let z : suc m ≡ suc (suc n) = ap (λ (c : Called). form c.told) q in
          let y : m ≡ suc n = omega (arith, z) in
          (e ∙ ap (λ (i : ℕ). refused i) y, sym (ap (λ (c : Called). c.store) q))
      go (ok t) e q = absurd (let z : 0 ≡ suc (suc n) = ap (λ (c : Called). form c.told) q in omega (arith, z))

  pub done_small : (b' : List ℕ) (x : ℕ) → StepDone b k x b' → x ≤ 15
  done_small b' zero d = omega arith
  done_small b' (suc n) d = refusal_small most_parts s k (suc n) (step_refused b' n d).0

  module _ (t : State) (e : state_after most_parts s k ≡ ok t) where
    after : Stands most_parts t
    after = after_stands most_parts (omega arith) s (held_stands most_parts (omega arith) b s h) k t e

    -- the store holds the state that the step leads to
    pub after_held : held most_parts (put_state most_parts b t) ≡ some t
    unfolding put_state
    after_held = begin_held most_parts (omega arith) 0 (drop (store_length most_parts) b) t after

    -- what stands behind the store is not changed by it, so that a state put next is put as into the slice before
    pub put_again : (u : State) → put_state most_parts (put_state most_parts b t) u ≡ put_state most_parts b u
    unfolding put_state
    put_again u =
        ap (λ (r : List ℕ). store_bytes most_parts u ++ r)
        (subst (λ (n : ℕ). drop n (store_bytes most_parts t ++ drop (store_length most_parts) b) ≡ drop (store_length most_parts) b) (bytes_length most_parts (omega arith) t after.fits) (drop-append_seam (store_bytes most_parts t) (drop (store_length most_parts) b)))

    pub done_again : (r : Stepped) → run_done most_parts b r ≡ run_done most_parts (put_state most_parts b t) r
    done_again r = ap (called (accepted r.accepted r.refusal)) (sym (put_again r.state))

-- the first of some steps
module _ (s : State) (n : ℕ) (k : Step) (ks : List Step) where
  abbrev behind : Result State → Stepped
  behind r = elim r as (λ v. Stepped) [ refused m ↦ stepped n m s | ok t ↦ states_after most_parts t (suc n) ks ]

  pub first_refused : (m : ℕ) → state_after most_parts s k ≡ refused m → states_after most_parts s n (k ∷ ks) ≡ stepped n m s
  unfolding states_after
  first_refused m e = ap behind e

  pub first_accepted : (t : State) → state_after most_parts s k ≡ ok t → states_after most_parts s n (k ∷ ks) ≡ states_after most_parts t (suc n) ks
  unfolding states_after
  first_accepted t e = ap behind e
