-- Where the start of three texts ends: at the program, at the query, or at the start itself; and what `checked-run` then is. Assumes nothing.
use mathlib.Core.Path.{◌≡◌, refl, sym, ap, ◌∙◌, subst}
use mathlib.Core.List.{List}
use mathlib.Core.Bool.{Bool, true, false}
use Prim.Native.Nat.{ℕ, zero, suc, ◌≤◌, ◌<◌}
use native.Mathlib.Omega.{arith}
use Rattle.akl.specs.Base.{Result, refused, ok}
use Rattle.akl.specs.Syntax.{Program}
use Rattle.akl.specs.Reader.{Query, read_program, read_query}
use Rattle.akl.specs.StepsText.{Step, read_steps}
use Rattle.akl.specs.Configuration.{Config}
use Rattle.akl.specs.Step.{steps}
use Rattle.akl.specs.Limits.{most_parts}
use Rattle.akl.specs.Record.{start, Checked, checked_run}
use Rattle.store_calls.specs.Outcomes.{slices_short}
use Rattle.store_lent.specs.Lent.{working_bytes}
use Rattle.start_outcome.specs.Outcome.{limits_refusal, slices_refusal, query_refusal, program_refusal, start_refusal}
use Rattle.record_verdict.proofs.Texts.{Between, program_between, query_between, start_between}

-- `checked-run`, stage by stage
abbrev at_start : Program → Query → List Step → Result Config → Result Checked
at_start P g ks r = elim r as (λ v. Result Checked) [ refused n ↦ refused n | ok c ↦ ok (record { variables = g.variables; run = steps most_parts P c 0 ks }) ]

abbrev at_steps : Program → Query → Result (List Step) → Result Checked
at_steps P g r = elim r as (λ v. Result Checked) [ refused n ↦ refused n | ok ks ↦ at_start P g ks (start most_parts g) ]

abbrev at_query : Program → List ℕ → Result Query → Result Checked
at_query P k r = elim r as (λ v. Result Checked) [ refused n ↦ refused n | ok g ↦ at_steps P g (read_steps k) ]

abbrev at_program : List ℕ → List ℕ → Result Program → Result Checked
at_program q k r = elim r as (λ v. Result Checked) [ refused n ↦ refused n | ok P ↦ at_query P k (read_query P q) ]

module _ (t q k : List ℕ) where
  pub refused_program : (n : ℕ) → read_program t ≡ refused n → checked_run most_parts t q k ≡ refused n
  unfolding checked_run
  refused_program n e = ap (at_program q k) e

  module _ (P : Program) (e : read_program t ≡ ok P) where
    pub refused_query : (n : ℕ) → read_query P q ≡ refused n → checked_run most_parts t q k ≡ refused n
    unfolding checked_run
    refused_query n h = ap (at_program q k) e ∙ ap (at_query P k) h

    module _ (g : Query) (h : read_query P q ≡ ok g) where
      pub refused_steps : (n : ℕ) → read_steps k ≡ refused n → checked_run most_parts t q k ≡ refused n
      unfolding checked_run
      refused_steps n i = ap (at_program q k) e ∙ ap (at_query P k) h ∙ ap (at_steps P g) i

      module _ (ks : List Step) (i : read_steps k ≡ ok ks) where
        pub refused_start : (n : ℕ) → start most_parts g ≡ refused n → checked_run most_parts t q k ≡ refused n
        unfolding checked_run
        refused_start n j = ap (at_program q k) e ∙ ap (at_query P k) h ∙ ap (at_steps P g) i ∙ ap (at_start P g ks) j

        pub begun : (c : Config) → start most_parts g ≡ ok c → checked_run most_parts t q k ≡ ok (record { variables = g.variables; run = steps most_parts P c 0 ks })
        unfolding checked_run
        begun c j = ap (at_program q k) e ∙ ap (at_query P k) h ∙ ap (at_steps P g) i ∙ ap (at_start P g ks) j

-- where a start that answers x ends
pub data Stage (t q : List ℕ) (short : Bool) (x : ℕ) : Type 0 where
  in_program : read_program t ≡ refused x → 1 ≤ x → x ≤ 7 → Stage t q short x
  in_query : (P : Program) → read_program t ≡ ok P → read_query P q ≡ refused x → 1 ≤ x → x ≤ 7 → Stage t q short x
  in_start : (P : Program) (g : Query) → read_program t ≡ ok P → read_query P q ≡ ok g → x ≡ slices_refusal short (start most_parts g) → Stage t q short x

module _ (t q b : List ℕ) (w : ℕ) where
  abbrev short : Bool
  short = slices_short most_parts working_bytes b w

  pub stage : (x : ℕ) → x ≡ start_refusal most_parts working_bytes t q b w → Stage t q short x
  unfolding start_refusal
  stage x e = at_text (read_program t) refl (program_between t) e
    where
      at_goal : (P : Program) → read_program t ≡ ok P → (r : Result Query) → read_query P q ≡ r → Between 1 7 r → x ≡ query_refusal most_parts short r → Stage t q short x
      at_goal P p (refused n) h l i = in_query P p (h ∙ ap (λ (m : ℕ). refused m) (sym i)) (omega (arith, l.0, i)) (omega (arith, l.1, i))
      at_goal P p (ok g) h l i = in_start P g p h i

      at_text : (r : Result Program) → read_program t ≡ r → Between 1 7 r → x ≡ program_refusal most_parts short q r → Stage t q short x
      at_text (refused n) h l i = in_program (h ∙ ap (λ (m : ℕ). refused m) (sym i)) (omega (arith, l.0, i)) (omega (arith, l.1, i))
      at_text (ok P) h l i = at_goal P h (read_query P q) refl (query_between P q) i

-- 8 comes of the slices, 9 and more of the start
pub eight_short : (g : Query) (c : Bool) (x : ℕ) → x ≡ 8 → x ≡ slices_refusal c (start most_parts g) → c ≡ true
eight_short g true x e i = refl
eight_short g false x e i = absurd (go (start most_parts g) (start_between most_parts g) i)
  where
    go : (r : Result Config) → Between 14 15 r → x ≡ limits_refusal r → ⊥
    go (refused n) l j = omega (arith, l.0, j, e)
    go (ok c) l j = omega (arith, j, e)

pub more_start : (g : Query) (c : Bool) (x : ℕ) → 8 < x → x ≡ slices_refusal c (start most_parts g) → start most_parts g ≡ refused x
more_start g true x l i = absurd (omega (arith, i))
more_start g false x l i = go (start most_parts g) i
  where
    go : (r : Result Config) → x ≡ limits_refusal r → r ≡ refused x
    go (refused n) j = ap (λ (m : ℕ). refused m) (sym j)
    go (ok c) j = absurd (omega (arith, j))

pub none_short : (g : Query) (c : Bool) → 0 ≡ slices_refusal c (start most_parts g) → c ≡ false
none_short g true i = absurd (omega (arith, i))
none_short g false i = refl

-- neither is one of 1 to 7
pub none_lower : (g : Query) (c : Bool) (x : ℕ) → (x ≡ 0 → ⊥) → x < 8 → x ≡ slices_refusal c (start most_parts g) → ⊥
none_lower g true x z l i = omega (arith, i)
none_lower g false x z l i = go (start most_parts g) (start_between most_parts g) i
  where
    go : (r : Result Config) → Between 14 15 r → x ≡ limits_refusal r → ⊥
    go (refused n) h j = omega (arith, h.0, j)
    go (ok c) h j = z j
