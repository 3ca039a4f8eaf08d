-- Unrest at an and-box, from the solver's two answers; and at other places, from what moves there.
use mathlib.Core.Path.{◌≡◌, refl, ap, sym, ◌∙◌, subst}
use mathlib.Core.Bool.{Bool, true, false, cond, ◌||◌, not}
use mathlib.Core.List.{List, ◌∷◌}
use mathlib.Core.Option.{some}
use Prim.Native.Nat.{ℕ, zero, suc, ◌+◌, ◌<◌, ◌≤◌}
use native.Mathlib.Omega.{arith}
use native.Mathlib.Decide.{ℕ_discrete}
use lib.Dec.{eqb}
use lib.ListN.{get_or}
use Rattle.constraint.specs.Solve.{quiet?}
use Rattle.akl.specs.Base.{nth, all, any, range, size}
use Rattle.akl.specs.Configuration.{env}
use Rattle.akl.specs.Places.{inside}
use Rattle.akl.specs.Table as akl_table
use Rattle.akl.specs.Table.{row, itself, holder, determinate, rule_row, takes_number}
use Rattle.akl.specs.Stability.{rewritten, disturbs, locals}
use Rattle.accept.specs.AtPlaces.{stores_at}
use Rattle.mem_words.specs.declared.Word.{Word}
use Rattle.mem_words.specs.declared.Word.TheVariants.{End, Free, Level, Num, Place, Inner, Bad}
use Rattle.mem_sorts.specs.declared.Kind.TheVariants.{Or, And, Guarded, Member, Wait, Cond, Commit}
use Rattle.mem_sorts.specs.declared.Sort.{Sort}
use Rattle.mem_sorts.specs.declared.Sort.TheVariants as sorts
use Rattle.store_form.specs.State.{program_of, config_of}
use Rattle.rule_words.specs.Scans.{around}
use Rattle.rule_effects.specs.Effects.{behind}
use Rattle.rule_effects.specs.Conditions.{kind_in, kind_at}
use Rattle.rule_ranges.specs.Asked.{SatIn, QuietIn}
use Rattle.rule_kinds.specs.Kinds.{sort_takes, word_takes, or_takes, place_takes, takes_in}
use Rattle.rule_applies.specs.declared.Asks.TheVariants.{Satisfiable}
use Rattle.rule_applies.specs.Asking.{asks_in}
use Rattle.step_meant.specs.Asked.{Unrest, Applies}
use Rattle.step_applies.proofs.Laws.{satisfied_not, unsatisfied_applies}
use Rattle.step_unrest.specs.Disturbing.{Disturbed, MovedAt}
use Rattle.step_unrest.proofs.Placing.{place_there, kind_is}
use Rattle.step_unrest.proofs.Resting.{answer, no_unrest, moved, no_and_box, quiet_stores}
use Rattle.step_unrest.proofs.Taken.{says, applied, all_rules, says_and_box}
use Rattle.step_unrest.proofs.Moving.{place_inside, effect_is}

-- ---------------------------------------------------------------------------------------------
-- Where an and-box begins its kind is read.

differ : false ≡ true → ⊥
differ z = let y : ◌≡◌ {A = ℕ} 0 1 = ap (λ (x : Bool). elim x [ true ↦ 1 | false ↦ 0 ]) z in omega (arith, y)

pub and_takes : (W : List Word) (j : ℕ) → kind_at W j And ≡ true → takes_in W j ≡ 7
unfolding kind_at takes_in
and_takes W j = go (get_or W j Bad)
  where
    go : (w : Word) → eqb (kind_in w) 1 ≡ true → place_takes w W j ≡ 7
    go End h = absurd (differ h)
    go (Free v) h = absurd (differ h)
    go (Level v) h = absurd (differ h)
    go (Num v) h = absurd (differ h)
    go (Place Or) h = absurd (differ h)
    go (Place And) h = refl
    go (Place Guarded) h = absurd (differ h)
    go (Place Member) h = absurd (differ h)
    go (Place Wait) h = absurd (differ h)
    go (Place Cond) h = absurd (differ h)
    go (Place Commit) h = absurd (differ h)
    go (Inner s) h = absurd (differ h)
    go Bad h = absurd (differ h)

sort_no : (s : Sort) → sort_takes s ≡ 7 → ⊥
sort_no sorts.Locals h = omega (arith, h)
sort_no sorts.Store h = omega (arith, h)
sort_no sorts.True h = omega (arith, h)
sort_no sorts.Fail h = omega (arith, h)
sort_no sorts.Eq h = omega (arith, h)
sort_no sorts.App h = omega (arith, h)
sort_no sorts.Call h = omega (arith, h)
sort_no sorts.Comp h = omega (arith, h)
sort_no sorts.Hide h = omega (arith, h)
sort_no sorts.Clause h = omega (arith, h)
sort_no sorts.AskWait h = omega (arith, h)
sort_no sorts.AskCond h = omega (arith, h)
sort_no sorts.AskCommit h = omega (arith, h)

word_no : (w : Word) → word_takes w ≡ 7 → ⊥
word_no End h = omega (arith, h)
word_no (Free v) h = omega (arith, h)
word_no (Level v) h = omega (arith, h)
word_no (Num v) h = omega (arith, h)
word_no (Place k) h = omega (arith, h)
word_no (Inner s) h = sort_no s h
word_no Bad h = omega (arith, h)

or_no : (W : List Word) (j : ℕ) → or_takes W j ≡ 7 → ⊥
unfolding or_takes
or_no W zero h = omega (arith, h)
or_no W (suc j) h = go (kind_at W (around W (suc j)) Or) h
  where
    go : (b : Bool) → ◌≡◌ {A = ℕ} (cond b 8 9) 7 → ⊥
    go true e = omega (arith, e)
    go false e = omega (arith, e)

pub takes_and : (W : List Word) (j : ℕ) → takes_in W j ≡ 7 → kind_at W j And ≡ true
unfolding kind_at takes_in
takes_and W j = go (get_or W j Bad)
  where
    go : (w : Word) → place_takes w W j ≡ 7 → eqb (kind_in w) 1 ≡ true
    go End h = absurd (omega (arith, h))
    go (Free v) h = absurd (omega (arith, h))
    go (Level v) h = absurd (omega (arith, h))
    go (Num v) h = absurd (omega (arith, h))
    go (Place Or) h = absurd (or_no W j h)
    go (Place And) h = refl
    go (Place Guarded) h = absurd (omega (arith, h))
    go (Place Member) h = absurd (word_no (get_or W (j + 1) Bad) h)
    go (Place Wait) h = absurd (omega (arith, h))
    go (Place Cond) h = absurd (omega (arith, h))
    go (Place Commit) h = absurd (omega (arith, h))
    go (Inner s) h = absurd (omega (arith, h))
    go Bad h = absurd (omega (arith, h))

-- ---------------------------------------------------------------------------------------------
-- An and-box: rule 9 alone takes it.

or_true : (b : Bool) → b || true ≡ true
or_true true = refl
or_true false = refl

module _ (W D : List Word) (g j : ℕ) (a : g ≤ j) (b : j < behind W g) (e : takes_in W j ≡ 7) where
  disturbed_9 : (r : Bool) → Applies W D 9 j r → Disturbed W D g j r
  unfolding rule_row nth akl_table.table
  disturbed_9 r x = record {
    right = λ s χ n pl m p q.
        sym (all_rules s χ n pl
        ∙ ap (λ (k : ℕ). says k (inside χ n (rewritten itself pl)) (inside χ n (rewritten holder pl)) (applied s pl)) (sym (kind_is W j s pl q) ∙ e)
        ∙ ap (λ (i : Bool). says 7 i (inside χ n (rewritten holder pl)) (applied s pl)) (place_inside W D g j s χ n p pl q a b)
        ∙ says_and_box (applied s pl) (inside χ n (rewritten holder pl))
        ∙ effect_is W D j 7 (sym e) 9 (row akl_table.and_box determinate itself) r refl refl x s pl m q);
  }

  -- calm
  pub box_rests : SatIn W j true → QuietIn W g j true → Unrest W D g j false
  unfolding asks_in
  box_rests s q = quiet_stores W D g j 7 (sym e) (λ z. omega (arith, z)) false true a b (disturbed_9 false (satisfied_not W D 9 j j true refl s refl)) refl refl q refl

  -- rule 9 applies
  pub box_unsolved : SatIn W j false → Unrest W D g j true
  unfolding asks_in
  box_unsolved s = moved W D g j 7 (sym e) (λ z. omega (arith, z)) true (disturbed_9 true (unsatisfied_applies W D 9 j j false refl s refl)) refl

  -- the stores are not quiet
  pub box_loud : QuietIn W g j false → Unrest W D g j true
  box_loud x = record {
    right = λ s χ n pl m p q.
        sym (ap (λ (u : Bool). any (λ r. disturbs (program_of s) (config_of s) χ n r pl) (range 1 (size akl_table.table)) || not u) (sym (answer W D g j a b s χ n pl false m p q (sym (kind_is W j s pl q) ∙ e) x))
        ∙ or_true (any (λ r. disturbs (program_of s) (config_of s) χ n r pl) (range 1 (size akl_table.table))));
    found = λ z s m. place_there W D j s m (λ y. omega (arith, y, e));
  }

-- ---------------------------------------------------------------------------------------------
-- Other places behind the goal's first word.

module _ {W D : List Word} {g j : ℕ} {b : Bool} (h : MovedAt W D j b) (a : g < j) (c : j < behind W g) where
  pub place_stirs : b ≡ true → Unrest W D g j true
  place_stirs z = let y = h.place z in moved W D g j (takes_in W j) refl y.0 b (h.right y.1 g a c) z

  pub place_rests : b ≡ false → (takes_in W j ≡ 7 → ⊥) → Unrest W D g j false
  place_rests z o = go (ℕ_discrete (takes_in W j) 10)
    where
      go : Dec (takes_in W j ≡ 10) → Unrest W D g j false
      go (yes y) = no_unrest W D g j (takes_in W j) refl y
      go (no y) = no_and_box W D g j (takes_in W j) refl y b (h.right o g a c) z o
