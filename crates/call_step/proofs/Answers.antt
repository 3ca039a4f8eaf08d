-- The answers of a step: 8, 9, and what is done on the state that is held. Assumes nothing.
use mathlib.Core.Path.{◌≡◌, refl, sym, ap, ◌∙◌}
use mathlib.Core.List.{List}
use mathlib.Core.Bool.{Bool, true, false}
use Prim.Native.Nat.{ℕ, zero, suc, ◌≤◌, ◌<◌}
use lib.ListN.{length}
use Rattle.akl.specs.Limits.{most_parts}
use Rattle.akl.specs.StepsText.{Step}
use Rattle.runs.specs.Outcomes.{refusal}
use Rattle.store_form.specs.State.{State}
use Rattle.store_steps.specs.After.{state_after}
use Rattle.store_calls.specs.Outcomes.{Called, called, step_done, step_outcome}
use Rattle.store_calls.specs.Handed.{returned}
use Rattle.store_calls.proofs.Any.{some_held}
use Rattle.store_lent.specs.Lent.{working_bytes}
use Rattle.step_meant.specs.Deciding.{outcome_of, StepDone}
use Rattle.call_step.specs.Called.{StepTo}
use Rattle.refusals.specs.declared.Refusal.{Refusal}
use Rattle.refusals.specs.Refusals.{number_of}
use Rattle.std.specs.Prelude.{Err}
use Rattle.call_slices.specs.Admitted.{Admits}
use Rattle.call_slices.proofs.Slices.{GoesOn, refused_call}

-- the number of what a step hands back
pub returns_number : (x : ℕ) → returned (outcome_of x) ≡ x
unfolding returned
returns_number zero = refl
returns_number (suc n) = refl

module _ (b : List ℕ) (w : ℕ) (k : Step) where
  -- what is done with a state
  abbrev done_with : State → Called
  done_with s = step_done most_parts b (state_after most_parts s k)

  abbrev all : Called
  all = step_outcome most_parts working_bytes b w k

  of_outcome : (o : Called) (x : ℕ) (b' : List ℕ) → o ≡ called (outcome_of x) b' → all ≡ o → StepTo b w k b' x
  of_outcome o x b' e q =
      let r : all ≡ called (outcome_of x) b' = q ∙ e in
      record { refusal = sym (ap (λ (c : Called). returned c.told) r ∙ returns_number x); store = sym (ap (λ (c : Called). c.store) r) }

  -- 8 and 9
  pub to_refused : (e : Refusal) → Admits b w (Err e) → StepTo b w k b (number_of e)
  unfolding step_outcome returned
  to_refused e a =
      let r : all ≡ called (refusal (number_of e)) b = refused_call b w e a done_with in
      record { refusal = sym (ap (λ (c : Called). returned c.told) r); store = sym (ap (λ (c : Called). c.store) r) }

  -- the step is done on the state that the store holds
  pub done : (b' : List ℕ) (x : ℕ) → GoesOn b w → StepDone b k x b' → StepTo b w k b' x
  unfolding step_outcome
  done b' x g d = of_outcome (done_with g.state.state) x b' (d.right g.state.state g.state.holds) (some_held most_parts working_bytes b w done_with g.long g.state.state g.state.holds)
