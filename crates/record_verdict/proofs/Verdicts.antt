-- The verdict's tests in their order. Assumes nothing.
use mathlib.Core.Path.{◌≡◌, refl, sym, ap, ◌∙◌, subst}
use mathlib.Core.List.{List}
use mathlib.Core.Bool.{Bool, true, false}
use Prim.Native.Nat.{ℕ, zero, suc, ◌/◌, ◌%◌, ◌≤◌, ◌<◌}
use native.Mathlib.Omega.{arith}
use lib.ListN.{length}
use Rattle.akl.specs.Base.{Result, refused, ok}
use Rattle.akl.specs.Limits.{most_parts}
use Rattle.akl.specs.Syntax.{Program}
use Rattle.akl.specs.Reader.{Query, read_program, read_query}
use Rattle.akl.specs.StepsText as akl
use Rattle.akl.specs.Record.{start, checked_run}
use Rattle.refusals.specs.declared.Refusal.{Refusal}
use Rattle.refusals.specs.Refusals.{number_of}
use Rattle.std.specs.Prelude as std
use Rattle.read_steps.specs.Lines as lines
use Rattle.store_calls.specs.Outcomes.{slices_short}
use Rattle.store_lent.specs.Lent.{working_bytes}
use Rattle.start_outcome.specs.Outcome.{slices_refusal, StartTo, StoreAfter, Started}
use Rattle.call_run.specs.Called.{RunTo}
use Rattle.call_run.proofs.Text.{not_both}
use Rattle.record_verdict.specs.Judged as judged
use Rattle.record_verdict.specs.Judged.{RanTo}
use Rattle.record_verdict.proofs.Stages.{Stage, in_program, in_query, in_start, stage, refused_program, refused_query, refused_steps, refused_start, eight_short, more_start, none_short, none_lower}
use Rattle.record_verdict.proofs.Led.{led}

-- ---------------------------------------------------------------------------------------------
-- The steps text by itself.

text_refused : (r : Result (List akl.Step)) (n : ℕ) → refused n ≡ lines.counted r → r ≡ refused n
text_refused (refused m) n e = ap (λ (q : Result ℕ). elim q as (λ v. Result (List akl.Step)) [ refused i ↦ refused i | ok a ↦ refused a ]) (sym e)
text_refused (ok ks) n e = absurd (not_both n _ e)

text_read : (r : Result (List akl.Step)) (n : ℕ) → ok n ≡ lines.counted r → (ks : List akl.Step) × (r ≡ ok ks)
text_read (refused m) n e = absurd (not_both m n (sym e))
text_read (ok ks) n e = (ks, refl)

steps_refused : (k : List ℕ) (f : Refusal) → lines.checked (std.Err f) ≡ lines.counted (akl.read_steps k) → akl.read_steps k ≡ refused (number_of f)
steps_refused k f e = text_refused (akl.read_steps k) (number_of f) e

steps_read : (k : List ℕ) (m : ℕ) → lines.checked (std.Ok m) ≡ lines.counted (akl.read_steps k) → (ks : List akl.Step) × (akl.read_steps k ≡ ok ks)
steps_read k m e = text_read (akl.read_steps k) m e

-- ---------------------------------------------------------------------------------------------
-- x is what the start answers, b₁ the store's slice after it.

-- both texts are read
record Both (t q : List ℕ) (short : Bool) (x : ℕ) : Type 0 where
  program : Program
  goal : Query
  reads_program : read_program t ≡ ok program
  reads_query : read_query program q ≡ ok goal
  answers : x ≡ slices_refusal short (start most_parts goal)

module _ (t q k b b₁ : List ℕ) (w x : ℕ) (T : StartTo t q b w b₁ x) where
  abbrev short : Bool
  short = slices_short most_parts working_bytes b w

  here : Stage t q short x
  here = stage t q b w x T.refusal

  -- 1 to 7 of the program and of the query
  pub texts_refused : (x ≡ 0 → ⊥) → x < 8 → checked_run most_parts t q k ≡ refused x
  texts_refused z l = go here
    where
      go : Stage t q short x → checked_run most_parts t q k ≡ refused x
      go (in_program e a h) = refused_program t q k x e
      go (in_query P p e a h) = refused_query t q k P p x e
      go (in_start P g p e i) = absurd (none_lower g short x z l i)

  both : (1 ≤ x → x ≤ 7 → ⊥) → Both t q short x
  both z = go here
    where
      go : Stage t q short x → Both t q short x
      go (in_program e a h) = absurd (z a h)
      go (in_query P p e a h) = absurd (z a h)
      go (in_start P g p e i) = record { program = P; goal = g; reads_program = p; reads_query = e; answers = i }

  -- 1 and 18 of the steps text
  pub text_first : (1 ≤ x → x ≤ 7 → ⊥) → (f : Refusal) → lines.checked (std.Err f) ≡ lines.counted (akl.read_steps k) → checked_run most_parts t q k ≡ refused (number_of f)
  text_first z f e = let B = both z in refused_steps t q k B.program B.reads_program B.goal B.reads_query (number_of f) (steps_refused k f e)

  -- 8
  pub too_short : x ≡ 8 → (m : ℕ) → lines.checked (std.Ok m) ≡ lines.counted (akl.read_steps k) → judged.TooShort t q k b w
  too_short e m r =
      let B = both (λ l h. omega (arith, e)) in
      let K = steps_read k m r in
      record {
        short = eight_short B.goal short x e B.answers;
        program = B.program;
        query = B.goal;
        steps = K.0;
        reads_program = B.reads_program;
        reads_query = B.reads_query;
        reads_steps = K.1;
      }

  -- 15
  pub start_refused : 8 < x → (m : ℕ) → lines.checked (std.Ok m) ≡ lines.counted (akl.read_steps k) → checked_run most_parts t q k ≡ refused x
  start_refused l m r =
      let B = both (λ a h. omega arith) in
      let K = steps_read k m r in
      refused_start t q k B.program B.reads_program B.goal B.reads_query K.0 K.1 x (more_start B.goal short x l B.answers)

  -- the start is accepted, and then the steps are tried; y is what they answer
  pub steps_tried : x ≡ 0 → (m : ℕ) → lines.checked (std.Ok m) ≡ lines.counted (akl.read_steps k) → (b₂ : List ℕ) (v y : ℕ) → v ≡ w → RunTo k b₁ v b₂ y → RanTo t q k b₂ (y / 256) (y % 256)
  steps_tried e m r b₂ v y same R =
      let B = both (λ l h. omega (arith, e)) in
      let K = steps_read k m r in
      led t q k b b₁ b₂ w y
      (subst (StoreAfter most_parts t q b b₁) e T.store)
      (none_short B.goal short (sym e ∙ B.answers))
      K.0
      K.1
      (subst (λ (i : ℕ). RunTo k b₁ i b₂ y) same R)
