-- A steps text, line by line: what is left of it behind the lines that were read. Assumes nothing.
use mathlib.Core.Path.{◌≡◌, refl, sym, ap, ◌∙◌}
use mathlib.Core.List.{List, [], ◌∷◌}
use mathlib.Core.Bool.{Bool, true, false}
use mathlib.Core.Option.{Option, some, none, some-injective}
use Prim.Native.Nat.{ℕ, zero, suc, ◌-◌, ◌≤◌, ◌<◌}
use native.Mathlib.Omega.{arith}
use borrow.Author.Tests.{ltb-false}
use lib.Dec.{ltb}
use lib.ListN.{length, drop, drop_of_length-le}
use lib.Seq.{drop-cons}
use Rattle.akl.specs.Base.{size, if, ◌>>=◌, Result, refused, ok}
use Rattle.akl.specs.Limits.{steps_bytes}
use Rattle.akl.specs.StepsText as akl
use Rattle.refusals.specs.declared.Refusal.{Refusal}
use Rattle.refusals.specs.Refusals.{number_of}
use Rattle.read_tokens.specs.declared.Cursor.{Cursor}
use Rattle.read_tokens.specs.Runs.{size_length}
use Rattle.read_steps.specs.declared.Step.{Step}
use Rattle.std.specs.Prelude as std
use Rattle.read_steps.specs.Lines.{step, outcome, LineRead}

-- a refusal is no result, no reading is none
pub not_both : {A : Type 0} (n : ℕ) (a : A) → ◌≡◌ {A = Result A} (refused n) (ok a) → ⊥
not_both {A} n a e = let z : ◌≡◌ {A = ℕ} 0 1 = ap (λ (r : Result A). elim r as (λ v. ℕ) [ refused k ↦ 0 | ok b ↦ 1 ]) e in omega arith

pub ok_same : {A : Type 0} (a b : A) → ◌≡◌ {A = Result A} (ok a) (ok b) → a ≡ b
ok_same {A} a b e = ap (λ (r : Result A). elim r as (λ v. A) [ refused k ↦ a | ok x ↦ x ]) e

none_is_not : {A : Type 0} (a : A) → ◌≡◌ {A = Option A} none (some a) → ⊥
none_is_not {A} a e = let z : ◌≡◌ {A = ℕ} 0 1 = ap (λ (o : Option A). elim o as (λ v. ℕ) [ none ↦ 0 | some x ↦ 1 ]) e in omega arith

outcome_none : {A : Type 0} (o : Option A) (n : ℕ) → refused n ≡ outcome o → o ≡ none
outcome_none none n e = refl
outcome_none (some a) n e = absurd (not_both n a e)

outcome_some : {A : Type 0} (o : Option A) (a : A) → ok a ≡ outcome o → o ≡ some a
outcome_some {A} none a e = absurd (not_both 18 a (sym e))
outcome_some {A} (some b) a e = sym (ap (λ (r : Result A). elim r as (λ v. Option A) [ refused k ↦ none | ok x ↦ some x ]) e)

-- the steps from `from` on; so many turns of the definition are enough for them
pub record Left (t : List ℕ) (from : ℕ) (ks : List akl.Step) : Type 0 where
  pub turns : ℕ
  pub enough : length t - from < turns
  pub reads : akl.lines turns (drop from t) ≡ some ks

-- a text that is read is no longer than allowed, and all of its steps are left
pub all_left : (t : List ℕ) (ks : List akl.Step) → akl.read_steps t ≡ ok ks → Left t 0 ks × (length t ≤ 16384)
unfolding akl.read_steps
all_left t ks e = go (ltb steps_bytes (size t)) refl (akl.lines (suc (size t)) t) refl e
  where
    go : (x : Bool) → ltb steps_bytes (size t) ≡ x → (o : Option (List akl.Step)) → akl.lines (suc (size t)) t ≡ o →
        if x (refused 1) (elim o as (λ v. Result (List akl.Step)) [ none ↦ refused 18 | some ls ↦ ok ls ]) ≡ ok ks → Left t 0 ks × (length t ≤ 16384)
    go true p o q r = absurd (not_both 1 ks r)
    go false p none q r = absurd (not_both 18 ks r)
    go false p (some ls) q r =
        (record { turns = suc (size t); enough = omega (arith, size_length t); reads = q ∙ ap (λ (l : List akl.Step). some l) (ok_same ls ks r) }, omega (arith, size_length t, ltb-false steps_bytes (size t) p))

module _ (t : List ℕ) (from : ℕ) (ks : List akl.Step) (L : Left t from ks) where
  -- no byte is left
  pub none_left : length t ≤ from → ks ≡ []
  unfolding akl.lines
  none_left g = go L.turns L.enough L.reads
    where
      go : (k : ℕ) → length t - from < k → akl.lines k (drop from t) ≡ some ks → ks ≡ []
      go zero l e = absurd (omega arith)
      go (suc k) l e = sym (some-injective [] ks (sym (ap (akl.lines (suc k)) (drop_of_length-le t g)) ∙ e))

  module _ (g : from < length t) where
    turn : (k : ℕ) → akl.lines (suc k) (drop from t) ≡ (akl.line (drop from t) >>= λ l. akl.lines k l.1 >>= λ ls. some (l.0 ∷ ls))
    unfolding akl.lines
    turn k =
        ap (akl.lines (suc k)) (drop-cons t from 0 g)
        ∙ ap (λ (u : List ℕ). akl.line u >>= λ l. akl.lines k l.1 >>= λ ls. some (l.0 ∷ ls)) (sym (drop-cons t from 0 g))

    -- a line that is not as described: there is none in a text that is read
    pub no_refusal : (f : Refusal) → LineRead t from (std.Err f) → ⊥
    no_refusal f R = go L.turns L.enough L.reads
      where
        go : (k : ℕ) → length t - from < k → akl.lines k (drop from t) ≡ some ks → ⊥
        go zero l e = omega arith
        go (suc k) l e =
            none_is_not ks (sym (turn k ∙ ap (λ (o : Option (akl.Step × List ℕ)). o >>= λ l. akl.lines k l.1 >>= λ ls. some (l.0 ∷ ls)) (outcome_none (akl.line (drop from t)) (number_of f) R.says)) ∙ e)

    -- a line's step is the first of those that are left, the others are behind it
    pub next_left : (s : Step) (c : Cursor) → LineRead t from (std.Ok (s, c)) → (ls : List akl.Step) × (ks ≡ step s ∷ ls) × Left t c.0 ls
    next_left s c R = go L.turns L.enough L.reads
      where
        rest : (k : ℕ) → length t - from < suc k → (o : Option (List akl.Step)) → akl.lines k (drop c.0 t) ≡ o → (o >>= λ ls. some (step s ∷ ls)) ≡ some ks → (ls : List akl.Step) × (ks ≡ step s ∷ ls) × Left t c.0 ls
        rest k l none q e = absurd (none_is_not ks e)
        rest k l (some ls) q e =
            let m = R.forward in
            (ls, sym (some-injective (step s ∷ ls) ks e), record { turns = k; enough = omega (arith, m.ahead, m.inside); reads = q })

        go : (k : ℕ) → length t - from < k → akl.lines k (drop from t) ≡ some ks → (ls : List akl.Step) × (ks ≡ step s ∷ ls) × Left t c.0 ls
        go zero l e = absurd (omega arith)
        go (suc k) l e =
            rest k l (akl.lines k (drop c.0 t)) refl
            (sym (turn k ∙ ap (λ (o : Option (akl.Step × List ℕ)). o >>= λ l. akl.lines k l.1 >>= λ ls. some (l.0 ∷ ls)) (outcome_some (akl.line (drop from t)) (step s, drop c.0 t) R.says)) ∙ e)
