-- Any slice that holds a state is that state's bytes and what stands behind them: so what is said of such slices is said of all. The
-- length of a slice and what stands behind the store never change, and a steps text of which nothing is accepted changes nothing.
use mathlib.Core.Path.{◌≡◌, refl, ap, sym, ◌∙◌, subst}
use mathlib.Core.List.{List, [], ◌∷◌, ◌++◌}
use mathlib.Core.Bool.{Bool, true, false}
use mathlib.Core.Option.{Option, some, none}
use Prim.Native.Nat.{ℕ, suc, ◌<◌, ◌≤◌}
use native.Mathlib.Omega.{arith}
use lib.ListN.{length, drop, length-append, take-append-drop}
use lib.Seq.{drop-append_seam}
use Rattle.akl.specs.Base.{Result, refused, ok}
use Rattle.akl.specs.StepsText.{Step, read_steps}
use Rattle.akl.specs.Answers.{answer, state}
use Rattle.runs.specs.Outcomes.{Outcome, refusal, accepted, shown, stands}
use Rattle.store_form.specs.Sizes.{store_length}
use Rattle.store_form.specs.State.{State, names_of}
use Rattle.store_form.specs.Form.{store_bytes}
use Rattle.store_form.specs.Holding.{Fits}
use Rattle.store_form.proofs.Reading.{bytes_length}
use Rattle.store_steps.specs.After.{state_after, Stepped, stepped, states_after}
use Rattle.store_steps.proofs.Keeping.{after_stands, steps_stand}
use Rattle.store_calls.specs.Outcomes.{Called, called, slices_short, held, put_state, on_held, on_state, step_done, step_outcome, run_done, run_read, run_outcome, answer_done, answer_outcome, state_outcome}
use Rattle.store_calls.specs.Calls.{Asked, for_step, for_run, for_answer, for_state, ByteCall, asked_outcome, call_outcome}
use Rattle.store_calls.specs.Around.{Kept, SameAround}
use Rattle.store_calls.specs.OnBytes.{OnBytes}
use Rattle.store_calls.proofs.Any.{held_iff, held_stands}
use Rattle.store_calls.proofs.OnBytes.{calls_on_bytes}

module _ (limit : ℕ) (low : limit < 65536) (b : List ℕ) where
  module _ (s : State) (h : held limit b ≡ some s) where
    -- A slice is the bytes of the state that it holds, and what stands behind.
    pub held_slice : b ≡ store_bytes limit s ++ drop (store_length limit) b
    held_slice = sym (take-append-drop (store_length limit) b) ∙ ap (λ (l : List ℕ). l ++ drop (store_length limit) b) ((held_iff limit (omega arith) b s).0 h).0.is

    pub put_back : put_state limit b s ≡ b
    unfolding put_state
    put_back = sym held_slice

    -- Lists of calls on any slice that holds a state.
    pub held_on_bytes : (work : ℕ) (ks : List ByteCall) → OnBytes limit work s (drop (store_length limit) b) ks
    held_on_bytes work ks = calls_on_bytes limit low work (drop (store_length limit) b) s (held_stands limit (omega arith) b s h) ks

    put_around : (t : State) → Fits limit t → SameAround limit b (put_state limit b t)
    unfolding put_state
    put_around t F =
        let l = bytes_length limit (omega arith) t F in
        let k = bytes_length limit (omega arith) s (held_stands limit (omega arith) b s h).fits in
        let e : length b ≡ length (store_bytes limit s ++ drop (store_length limit) b) = ap length held_slice in
        record {
          long = omega (arith, l, k, e, length-append (store_bytes limit t) (drop (store_length limit) b), length-append (store_bytes limit s) (drop (store_length limit) b));
          behind = subst (λ (n : ℕ). drop n (store_bytes limit t ++ drop (store_length limit) b) ≡ drop (store_length limit) b) l (drop-append_seam (store_bytes limit t) (drop (store_length limit) b));
        }

  unchanged : SameAround limit b b
  unchanged = record { long = refl; behind = refl }

  around_held : (work w : ℕ) (f : State → Called) → ((s : State) → held limit b ≡ some s → SameAround limit b (f s).store) → SameAround limit b (on_state limit work b w f).store
  unfolding on_state
  around_held work w f k = go (slices_short limit work b w) (held limit b) refl
    where
      go : (u : Bool) (o : Option State) → held limit b ≡ o → SameAround limit b (on_held b f u o).store
      go true o e = unchanged
      go false none e = unchanged
      go false (some s) e = k s e

  around_step : (s : State) → held limit b ≡ some s → (k : Step) (r : Result State) → state_after limit s k ≡ r → SameAround limit b (step_done limit b r).store
  around_step s h k (refused n) e = unchanged
  around_step s h k (ok t) e = put_around s h t (after_stands limit low s (held_stands limit (omega arith) b s h) k t e).fits

  around_run : (work w : ℕ) (r : Result (List Step)) → SameAround limit b (run_read limit work b w r).store
  around_run work w (refused n) = unchanged
  around_run work w (ok ks) = around_held work w (λ s. run_done limit b (states_after limit s 0 ks)) (λ s h. put_around s h (states_after limit s 0 ks).state (steps_stand limit low ks s (held_stands limit (omega arith) b s h) 0).fits)

  around_answer : (r : Result (List ℕ)) → SameAround limit b (answer_done b r).store
  around_answer (refused n) = unchanged
  around_answer (ok t) = unchanged

  -- Whatever the bytes, a call keeps the slice's length and what stands behind the store.
  pub call_around : (work : ℕ) (k : ByteCall) → SameAround limit b (call_outcome limit work b k).store
  unfolding call_outcome step_outcome run_outcome answer_outcome state_outcome
  call_around work k = go k.asked
    where
      go : (a : Asked) → SameAround limit b (asked_outcome limit work b k.working a).store
      go (for_step x) = around_held work k.working (λ s. step_done limit b (state_after limit s x)) (λ s h. around_step s h x (state_after limit s x) refl)
      go (for_run t) = around_run work k.working (read_steps t)
      go (for_answer n m) = around_held work k.working (λ s. answer_done b (answer (names_of s) s.config.root n m)) (λ s h. around_answer (answer (names_of s) s.config.root n m))
      go for_state = around_held work k.working (λ s. called (stands (state s.config.root)) b) (λ s h. unchanged)

-- ---------------------------------------------------------------------------------------------
-- A steps text of which nothing is accepted.

counts_on : (limit : ℕ) (ks : List Step) (s : State) (n : ℕ) → n ≤ (states_after limit s n ks).accepted
unfolding states_after
counts_on limit [] s n = omega arith
counts_on limit (k ∷ ks) s n = go (state_after limit s k) (λ t. counts_on limit ks t (suc n))
  where
    go : (r : Result State) → ((t : State) → suc n ≤ (states_after limit t (suc n) ks).accepted) → n ≤ (elim r as (λ x. Stepped) [ refused m ↦ stepped n m s | ok t ↦ states_after limit t (suc n) ks ]).accepted
    go (refused m) ih = omega arith
    go (ok t) ih = omega (arith, ih t)

none_done : (limit : ℕ) (ks : List Step) (s : State) (n : ℕ) → (states_after limit s n ks).accepted ≡ n → (states_after limit s n ks).state ≡ s
unfolding states_after
none_done limit [] s n e = refl
none_done limit (k ∷ ks) s n e = go (state_after limit s k) e
  where
    go : (r : Result State) → (elim r as (λ x. Stepped) [ refused m ↦ stepped n m s | ok t ↦ states_after limit t (suc n) ks ]).accepted ≡ n → (elim r as (λ x. Stepped) [ refused m ↦ stepped n m s | ok t ↦ states_after limit t (suc n) ks ]).state ≡ s
    go (refused m) w = refl
    go (ok t) w = absurd (let g = counts_on limit ks t (suc n) in omega (arith, g, w))

abbrev count_of : Outcome → ℕ
count_of (refusal n) = 1
count_of (accepted n r) = n
count_of (shown t) = 1
count_of (stands s) = 1

pub none_accepted_kept : (limit : ℕ) → limit < 65536 → (work : ℕ) (b : List ℕ) (w : ℕ) (t : List ℕ) (r : ℕ) → (run_outcome limit work b w t).told ≡ accepted 0 r → (run_outcome limit work b w t).store ≡ b
unfolding run_outcome on_state
none_accepted_kept limit low work b w t r e = read (read_steps t) e
  where
    go : (ks : List Step) (u : Bool) (o : Option State) → held limit b ≡ o → (on_held b (λ s. run_done limit b (states_after limit s 0 ks)) u o).told ≡ accepted 0 r → (on_held b (λ s. run_done limit b (states_after limit s 0 ks)) u o).store ≡ b
    go ks true o h g = refl
    go ks false none h g = refl
    go ks false (some s) h g = ap (put_state limit b) (none_done limit ks s 0 (ap count_of g)) ∙ put_back limit low b s h

    read : (q : Result (List Step)) → (run_read limit work b w q).told ≡ accepted 0 r → (run_read limit work b w q).store ≡ b
    read (refused n) g = refl
    read (ok ks) g = go ks (slices_short limit work b w) (held limit b) refl g

-- ---------------------------------------------------------------------------------------------
-- "A refused step or call of one piece changes no store".

-- a number for each form of outcome, to tell them apart
abbrev form : Outcome → ℕ
form (refusal n) = 0
form (accepted n r) = 1
form (shown t) = 2
form (stands s) = 3

kept_held : (limit work : ℕ) (b : List ℕ) (w : ℕ) (f : State → Called) → ((s : State) → Kept b (f s)) → Kept b (on_state limit work b w f)
unfolding on_state
kept_held limit work b w f k = go (slices_short limit work b w) (held limit b)
  where
    go : (u : Bool) (o : Option State) → Kept b (on_held b f u o)
    go true o n e = refl
    go false none n e = refl
    go false (some s) n e = k s n e

kept_step : (limit : ℕ) (b : List ℕ) (r : Result State) → Kept b (step_done limit b r)
kept_step limit b (refused m) n e = refl
kept_step limit b (ok s) n e = absurd (let z : ◌≡◌ {A = ℕ} 1 0 = ap form e in omega arith)

kept_answer : (b : List ℕ) (r : Result (List ℕ)) → Kept b (answer_done b r)
kept_answer b (refused m) n e = refl
kept_answer b (ok t) n e = refl

kept_run : (limit work : ℕ) (b : List ℕ) (w : ℕ) (r : Result (List Step)) → Kept b (run_read limit work b w r)
kept_run limit work b w (refused m) n e = refl
kept_run limit work b w (ok ks) n e = kept_held limit work b w (λ s. run_done limit b (states_after limit s 0 ks)) (λ s m g. absurd (let z : ◌≡◌ {A = ℕ} 1 0 = ap form g in omega arith)) n e

-- Whatever the bytes, a call that is refused leaves them as they were.
pub refused_kept : (limit work : ℕ) (b : List ℕ) (k : ByteCall) → Kept b (call_outcome limit work b k)
unfolding call_outcome step_outcome run_outcome answer_outcome state_outcome
refused_kept limit work b k = go k.asked
  where
    go : (a : Asked) → Kept b (asked_outcome limit work b k.working a)
    go (for_step x) = kept_held limit work b k.working (λ s. step_done limit b (state_after limit s x)) (λ s. kept_step limit b (state_after limit s x))
    go (for_run t) = kept_run limit work b k.working (read_steps t)
    go (for_answer n m) = kept_held limit work b k.working (λ s. answer_done b (answer (names_of s) s.config.root n m)) (λ s. kept_answer b (answer (names_of s) s.config.root n m))
    go for_state = kept_held limit work b k.working (λ s. called (stands (state s.config.root)) b) (λ s n e. refl)
