-- What refuses a steps text before a step is tried: 1 and 18 of the text, then 8, then 9. Assumes nothing.
use mathlib.Core.Path.{◌≡◌, refl, sym, ap, ◌∙◌, subst}
use mathlib.Core.List.{List}
use Prim.Native.Nat.{ℕ, ◌+◌, ◌≤◌, ◌<◌}
use native.Mathlib.Omega.{arith}
use lib.ListN.{length}
use Rattle.akl.specs.Base.{Result, refused, ok}
use Rattle.akl.specs.Limits.{most_parts}
use Rattle.akl.specs.StepsText as akl
use Rattle.refusals.specs.declared.Refusal.{Refusal}
use Rattle.refusals.specs.Refusals.{number_of}
use Rattle.std.specs.Prelude as std
use Rattle.read_steps.specs.Lines as lines
use Rattle.runs.specs.Outcomes.{refusal}
use Rattle.store_form.specs.State.{State}
use Rattle.store_steps.specs.After.{states_after}
use Rattle.store_calls.specs.Outcomes.{Called, called, run_done, run_read, run_outcome}
use Rattle.store_calls.specs.Handed.{returned, counted}
use Rattle.store_calls.proofs.Any.{text_first}
use Rattle.store_lent.specs.Lent.{working_bytes}
use Rattle.call_slices.specs.Admitted.{Admits}
use Rattle.call_slices.proofs.Slices.{GoesOn, refused_call}
use Rattle.rule_solve.specs.Idle.{Idle}
use Rattle.call_run.specs.Called.{run_number, RunTo, CanRun}
use Rattle.call_run.proofs.Text.{not_both}

-- a text that the check of it refuses, and one that it does not
text_refused : (r : Result (List akl.Step)) (n : ℕ) → refused n ≡ lines.counted r → r ≡ refused n
text_refused (refused m) n e = ap (λ (q : Result ℕ). elim q as (λ v. Result (List akl.Step)) [ refused i ↦ refused i | ok a ↦ refused a ]) (sym e)
text_refused (ok ks) n e = absurd (not_both n _ e)

text_read : (r : Result (List akl.Step)) (n : ℕ) → ok n ≡ lines.counted r → (ks : List akl.Step) × (r ≡ ok ks)
text_read (refused m) n e = absurd (not_both m n (sym e))
text_read (ok ks) n e = (ks, refl)

module _ (t b : List ℕ) (w : ℕ) where
  refuses : (n : ℕ) → run_outcome most_parts working_bytes b w t ≡ called (refusal n) b → RunTo t b w b n
  unfolding returned counted
  refuses n e = record { number = sym (ap (λ (c : Called). run_number c.told) e ∙ zero_counted n); store = sym (ap (λ (c : Called). c.store) e) }
    where
      zero_counted : (n : ℕ) → 0 + n ≡ n
      zero_counted n = omega arith

  -- 1 and 18
  pub before_text : (f : Refusal) → lines.checked (std.Err f) ≡ lines.counted (akl.read_steps t) → RunTo t b w b (number_of f)
  before_text f e = refuses (number_of f) (text_first most_parts working_bytes b w t (number_of f) (text_refused (akl.read_steps t) (number_of f) e))

  module _ (m : ℕ) (e : lines.checked (std.Ok m) ≡ lines.counted (akl.read_steps t)) where
    ks : List akl.Step
    ks = (text_read (akl.read_steps t) m e).0

    reads : akl.read_steps t ≡ ok ks
    unfolding ks
    reads = (text_read (akl.read_steps t) m e).1

    abbrev done_with : State → Called
    done_with s = run_done most_parts b (states_after most_parts s 0 ks)

    -- 8 and 9
    pub before_steps : (f : Refusal) → Admits b w (std.Err f) → RunTo t b w b (number_of f)
    unfolding run_outcome
    before_steps f a = refuses (number_of f) (ap (run_read most_parts working_bytes b w) reads ∙ refused_call b w f a done_with)

    -- none of them
    pub can_run : (u : List ℕ) → GoesOn b w → Idle u → CanRun t b u
    can_run u g i = record { steps = ks; reads = reads; long = g.store; idle = i; holds = g.state }

-- what the steps lead to goes by the length of the working slice, which no function changes
pub same_working : {t b b' : List ℕ} {w x : ℕ} (v : ℕ) → w ≡ v → RunTo t b w b' x → RunTo t b v b' x
same_working {t} {b} {b'} {w} {x} v e r = subst (λ (i : ℕ). RunTo t b i b' x) e r
