-- A start that is accepted, and then the steps text on its store: the store holds where the definitions lead. Assumes nothing.
use mathlib.Core.Path.{◌≡◌, refl, sym, ap, ap₂, ◌∙◌, subst}
use mathlib.Core.List.{List}
use mathlib.Core.Bool.{Bool, true, false, ◌||◌}
use mathlib.Core.Option.{some}
use Prim.Native.Nat.{ℕ, ◌+◌, ◌*◌, ◌/◌, ◌%◌, ◌≤◌, ◌<◌}
use native.Mathlib.Omega.{arith}
use lib.Dec.{ltb}
use lib.ListN.{length, drop}
use Rattle.akl.specs.Base.{Result, refused, ok}
use Rattle.akl.specs.Limits.{most_parts}
use Rattle.akl.specs.Syntax.{Program}
use Rattle.akl.specs.StepsText.{Step, read_steps}
use Rattle.akl.specs.Configuration.{Config}
use Rattle.akl.specs.Step.{Run, steps}
use Rattle.runs.specs.Outcomes.{accepted}
use Rattle.store_form.specs.Sizes.{store_length}
use Rattle.store_form.specs.State.{State, program_of, names_of, config_of}
use Rattle.store_steps.specs.After.{Stands, Stepped, states_after}
use Rattle.store_steps.proofs.Keeping.{steps_mean, steps_stand}
use Rattle.store_calls.specs.Outcomes.{Called, called, slices_short, held, put_state, run_done, run_read, run_outcome}
use Rattle.store_calls.specs.Handed.{returned, counted}
use Rattle.store_calls.proofs.Any.{some_held}
use Rattle.store_calls.proofs.OnBytes.{begin_long, begin_held}
use Rattle.store_calls.proofs.Demand3.{begins_stands}
use Rattle.store_lent.specs.Lent.{working_bytes}
use Rattle.start_outcome.specs.Outcome.{Started}
use Rattle.call_run.specs.Called.{run_number, RunTo}
use Rattle.record_verdict.specs.Judged.{RanTo}
use Rattle.record_verdict.proofs.Texts.{steps_small}
use Rattle.record_verdict.proofs.Stages.{begun}

-- the working slice is long enough
working_long : (b : List ℕ) (w : ℕ) → slices_short most_parts working_bytes b w ≡ false → ltb w working_bytes ≡ false
unfolding slices_short
working_long b w e = go (ltb (length b) (store_length most_parts)) (ltb w working_bytes) e
  where
    go : (x y : Bool) → (x || y) ≡ false → y ≡ false
    go true y e = absurd (let z : ◌≡◌ {A = ℕ} 1 0 = ap (λ (c : Bool). elim c as (λ v. ℕ) [ true ↦ 1 | false ↦ 0 ]) e in omega arith)
    go false y e = e

-- a state that stands, put into a slice, is held by it
pub put_held : (b : List ℕ) (s : State) → Stands most_parts s → held most_parts (put_state most_parts b s) ≡ some s
unfolding put_state
put_held b s h = begin_held most_parts (omega arith) 0 (drop (store_length most_parts) b) s h

put_long : (b : List ℕ) (w : ℕ) (s : State) → Stands most_parts s → slices_short most_parts working_bytes b w ≡ false → slices_short most_parts working_bytes (put_state most_parts b s) w ≡ false
unfolding put_state
put_long b w s h e = begin_long most_parts (omega arith) working_bytes (drop (store_length most_parts) b) s h.fits w false (working_long b w e)

-- two numbers in one, taken apart
pub upper : (x a n : ℕ) → x ≡ 256 * a + n → n ≤ 15 → x / 256 ≡ a
upper x a n e h = omega (arith, e, h)

pub lower : (x a n : ℕ) → x ≡ 256 * a + n → n ≤ 15 → x % 256 ≡ n
lower x a n e h = omega (arith, e, h)

-- t, q and k are the texts; b₁ is b with the start's state, b₂ the slice after the steps
module _ (t q k b b₁ b₂ : List ℕ) (w x : ℕ) (S : Started most_parts t q b b₁) (long : slices_short most_parts working_bytes b w ≡ false) (ks : List Step) (reads : read_steps k ≡ ok ks) (R : RunTo k b₁ w b₂ x) where
  abbrev s : State
  s = S.state

  stands : Stands most_parts s
  stands = begins_stands most_parts (omega arith) t q S.program S.goal S.config S.reads_program S.reads_query S.starts s S.begins

  abbrev end : Stepped
  end = states_after most_parts s 0 ks

  abbrev run : Run
  run = steps most_parts (program_of s) (config_of s) 0 ks

  run_is : run ≡ steps most_parts S.program S.config 0 ks
  run_is = ap₂ (λ (P : Program) (c : Config). steps most_parts P c 0 ks) S.begins.program S.begins.config

  outcome : run_outcome most_parts working_bytes b₁ w k ≡ run_done most_parts b₁ end
  unfolding run_outcome
  outcome =
      ap (run_read most_parts working_bytes b₁ w) reads
      ∙ some_held most_parts working_bytes b₁ w (λ z. run_done most_parts b₁ (states_after most_parts z 0 ks))
      (ap (λ (z : List ℕ). slices_short most_parts working_bytes z w) S.store ∙ put_long b w s stands long)
      s
      (ap (held most_parts) S.store ∙ put_held b s stands)

  number : x ≡ 256 * end.accepted + end.refusal
  unfolding returned counted
  number = R.number ∙ ap (λ (c : Called). run_number c.told) outcome

  small : end.refusal ≤ 15
  small = steps_small most_parts ks s 0

  pub led : RanTo t q k b₂ (x / 256) (x % 256)
  led =
      let mean = steps_mean most_parts ks s 0 in
      record {
        checked = record { variables = S.goal.variables; run = steps most_parts S.program S.config 0 ks };
        is = begun t q k S.program S.reads_program S.goal S.reads_query ks reads S.config S.starts;
        accepted = upper x end.accepted end.refusal number small ∙ ap (λ (z : Stepped). z.accepted) mean ∙ ap (λ (r : Run). r.accepted) run_is;
        refusal = lower x end.accepted end.refusal number small ∙ ap (λ (z : Stepped). z.refusal) mean ∙ ap (λ (r : Run). r.refusal) run_is;
        state = end.state;
        holds = ap (held most_parts) (R.store ∙ ap (λ (c : Called). c.store) outcome) ∙ put_held b₁ end.state (steps_stand most_parts (omega arith) ks s stands 0);
        names = ap (λ (z : Stepped). names_of z.state) mean ∙ S.begins.names;
        config = ap (λ (z : Stepped). config_of z.state) mean ∙ ap (λ (r : Run). r.config) run_is;
      }
