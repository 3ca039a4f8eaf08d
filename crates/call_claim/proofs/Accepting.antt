-- The steps that a host sees accepted are those that the calls on configurations take. Assumes nothing.
use mathlib.Core.Path.{◌≡◌, refl, ap, sym, ◌∙◌}
use mathlib.Core.List.{List, [], ◌∷◌, ◌++◌, map, append_assoc, append-nil}
use mathlib.Core.Bool.{Bool, true, false}
use Prim.Native.Nat.{ℕ, zero, suc, ◌+◌, ◌/◌, ◌≤◌}
use native.Mathlib.Omega.{arith}
use lib.ListN.{take}
use Rattle.akl.specs.Base.{Name, size, Result, refused, ok}
use Rattle.akl.specs.Limits.{most_parts}
use Rattle.akl.specs.Syntax.{Program}
use Rattle.akl.specs.StepsText.{Step, read_steps}
use Rattle.akl.specs.Configuration.{Config}
use Rattle.akl.specs.Step.{step, Run, steps}
use Rattle.runs.specs.Calls.{Call, one_step, Move, move, step_moves, steps_moves, text_moves, call_moves, after_call, after_calls, calls_moves, NoPruning}
use Rattle.runs.specs.Outcomes.{step_outcome, text_outcome, outcome}
use Rattle.store_calls.specs.Handed.{returned, counted}
use Rattle.store_calls.specs.Calls.{run_meant}
use Rattle.call_run.specs.Called.{run_number}
use Rattle.call_claim.specs.Host.{Request, for_step, for_run, for_answer, for_state, for_count, for_start}
use Rattle.call_claim.specs.HostRun.{stands_for, Gets}
use Rattle.call_claim.specs.Seen.{steps_of, accepted_of, NoneLoses}
use Rattle.call_claim.proofs.Refused.{Within, of_step}

abbrev pub steps_taken : List Move → List Step
steps_taken ms = map (λ (m : Move). m.taken) ms

-- Moves of calls in two parts.
pub moves_parts : (P : Program) (js ks : List Call) (c : Config) → calls_moves most_parts P c (js ++ ks) ≡ calls_moves most_parts P c js ++ calls_moves most_parts P (after_calls most_parts P c js) ks
unfolding calls_moves after_calls
moves_parts P [] ks c = refl
moves_parts P (j ∷ js) ks c =
    let d = after_call most_parts P c j in
    ap (λ (l : List Move). call_moves most_parts P c j ++ l) (moves_parts P js ks d)
    ∙ sym (append_assoc (call_moves most_parts P c j) (calls_moves most_parts P d js) (calls_moves most_parts P (after_calls most_parts P d js) ks))

-- where none of the steps taken loses, none prunes
pub loses_prunes : (ms : List Move) → NoneLoses (steps_taken ms) → NoPruning ms
loses_prunes [] h = tt
loses_prunes (m ∷ ms) h = (h.0, loses_prunes ms h.1)

take_none : (n : ℕ) → ◌≡◌ {A = List Step} (take n []) []
take_none zero = refl
take_none (suc n) = refl

module _ (P : Program) where
  -- Steps one after the other, n being accepted before them: the number counts the moves, the refusal is small, and the moves take the
  -- first steps.
  counts : (ks : List Step) (c : Config) (n : ℕ) → (steps most_parts P c n ks).accepted ≡ n + size (steps_moves most_parts P c ks)
  unfolding steps steps_moves size
  counts [] c n = omega arith
  counts (k ∷ ks) c n = go (step most_parts P c k) (λ d. counts ks d (suc n))
    where
      go : (r : Result Config) → ((d : Config) → (steps most_parts P d (suc n) ks).accepted ≡ suc n + size (steps_moves most_parts P d ks)) →
          (elim r as (λ v. Run) [ refused m ↦ record { accepted = n; refusal = m; config = c } | ok d ↦ steps most_parts P d (suc n) ks ]).accepted
          ≡ n + size {A = Move} (elim r as (λ v. List Move) [ refused m ↦ [] | ok d ↦ move c k d ∷ steps_moves most_parts P d ks ])
      go (refused m) h = omega arith
      go (ok d) h = omega (arith, h d)

  small : (ks : List Step) (c : Config) (n : ℕ) → (steps most_parts P c n ks).refusal ≤ 15
  unfolding steps
  small [] c n = omega arith
  small (k ∷ ks) c n = go (step most_parts P c k) (of_step most_parts P c k) (λ d. small ks d (suc n))
    where
      go : (r : Result Config) → Within r → ((d : Config) → (steps most_parts P d (suc n) ks).refusal ≤ 15) →
          (elim r as (λ v. Run) [ refused m ↦ record { accepted = n; refusal = m; config = c } | ok d ↦ steps most_parts P d (suc n) ks ]).refusal ≤ 15
      go (refused m) w h = w.1
      go (ok d) w h = h d

  firsts : (ks : List Step) (c : Config) → steps_taken (steps_moves most_parts P c ks) ≡ take (size (steps_moves most_parts P c ks)) ks
  unfolding steps_moves size
  firsts [] c = refl
  firsts (k ∷ ks) c = go (step most_parts P c k) (λ d. firsts ks d)
    where
      go : (r : Result Config) → ((d : Config) → steps_taken (steps_moves most_parts P d ks) ≡ take (size (steps_moves most_parts P d ks)) ks) →
          steps_taken (elim r as (λ v. List Move) [ refused m ↦ [] | ok d ↦ move c k d ∷ steps_moves most_parts P d ks ])
          ≡ take (size {A = Move} (elim r as (λ v. List Move) [ refused m ↦ [] | ok d ↦ move c k d ∷ steps_moves most_parts P d ks ])) (k ∷ ks)
      go (refused m) h = refl
      go (ok d) h = ap (λ (l : List Step). k ∷ l) (h d)

  module _ (xs : List Name) (d : Config) where
    single : (k : Step) (r : Result Config) → Within r → (x : ℕ) → x ≡ returned (step_outcome r) → steps_taken (step_moves d k r) ≡ accepted_of (for_step k) x
    unfolding returned
    single k (refused n) w zero e = absurd (omega (arith, e, w.0))
    single k (refused n) w (suc x) e = refl
    single k (ok c) w zero e = refl
    single k (ok c) w (suc x) e = absurd (omega (arith, e))

    -- of a text
    text : (t : List ℕ) (r : Result (List Step)) (x : ℕ) → x ≡ run_number (text_outcome most_parts P d r) → steps_taken (text_moves most_parts P d r) ≡ take (x / 256) (steps_of r)
    unfolding returned counted
    text t (refused n) x e = sym (take_none (x / 256))
    text t (ok ks) x e =
        let n : x / 256 ≡ size (steps_moves most_parts P d ks) = omega (arith, e, counts ks d 0, small ks d 0) in
        firsts ks d ∙ ap (λ (i : ℕ). take i ks) (sym n)

    -- 8 is no acceptance
    eight : (k : Step) (x : ℕ) → x ≡ 8 → [] ≡ accepted_of (for_step k) x
    eight k zero e = absurd (omega (arith, e))
    eight k (suc x) e = refl

    run : (t : List ℕ) (x : ℕ) (s : Bool) (r : Result (List Step)) → x ≡ run_number (outcome most_parts P xs d (run_meant t s r)) →
        steps_taken (call_moves most_parts P d (run_meant t s r)) ≡ take (x / 256) (steps_of (read_steps t))
    unfolding returned counted
    run t x s (refused n) h = text t (read_steps t) x h
    run t x true (ok ks) h = let n : x / 256 ≡ 0 = omega (arith, h) in sym (ap (λ (i : ℕ). take i (steps_of (read_steps t))) n)
    run t x false (ok ks) h = text t (read_steps t) x h

    -- a list of one call
    one : (k : Call) → steps_taken (calls_moves most_parts P d (k ∷ [])) ≡ steps_taken (call_moves most_parts P d k)
    unfolding calls_moves
    one k = ap (λ (l : List Move). steps_taken l) (append-nil (call_moves most_parts P d k))

    -- one request
    pub took : (s : Bool) (r : Request) (x : ℕ) → Gets P xs d s r x → steps_taken (calls_moves most_parts P d (stands_for s r)) ≡ accepted_of r x
    unfolding calls_moves returned
    took true (for_step k) x h = eight k x h
    took false (for_step k) x h = one (one_step k) ∙ single k (step most_parts P d k) (of_step most_parts P d k) x h
    took s (for_run t) x h = one (run_meant t s (read_steps t)) ∙ run t x s (read_steps t) h
    took true (for_answer n o o') x h = refl
    took false (for_answer n o o') x h = refl
    took true for_state x h = refl
    took false for_state x h = refl
    took s for_count x h = refl
    took s (for_start t q) x h = refl
