-- A guard that is quiet, of which a rule asks it at a place inside a goal, is unrest there; where none is, no rule applies that asks.
use mathlib.Core.Path.{◌≡◌, refl, sym, subst}
use mathlib.Core.Bool.{Bool, true, false, ◌&&◌, not}
use mathlib.Core.Logic.{◌⊎◌, inl, inr}
use mathlib.Core.List.{List}
use Prim.Native.Nat.{ℕ, ◌+◌, ◌<◌, ◌≤◌}
use native.Mathlib.Omega.{arith}
use lib.ListN.{get_or}
use Rattle.mem_words.specs.declared.Word.{Word}
use Rattle.mem_words.specs.declared.Word.TheVariants.{End, Free, Level, Num, Place, Inner, Bad}
use Rattle.mem_sorts.specs.declared.Kind.TheVariants.{And}
use Rattle.rule_words.specs.Scans.{closes, close}
use Rattle.rule_effects.specs.Effects.{behind}
use Rattle.rule_effects.specs.Conditions.{ends_at, kind_at, one_at}
use Rattle.rule_ranges.specs.Asked.{QuietIn}
use Rattle.rule_kinds.specs.Kinds.{place_takes, takes_in}
use Rattle.step_meant.specs.Asked.{Unrest}
use Rattle.step_applies.proofs.Laws.{quiet_applies}
use Rattle.step_unrest.specs.Disturbing.{MovedAt, NoneQuiet}
use Rattle.step_unrest.proofs.Moving.{applied_6, applied_7, applied_8}
use Rattle.step_unrest.proofs.Boxed.{place_stirs}
use Rattle.step_open.proofs.Turns.{false_true, opening_closes, and_opens}
use Rattle.step_open.proofs.Chains.{inside_more}
use Rattle.step_turn.specs.Stood.{CanWalk}
use Rattle.step_walk.specs.Calm.{BoxesCalm}
use Rattle.step_waits.specs.Waits.{Operator, Waits}
use Rattle.step_waits.proofs.Asking.{tests_6}
use Rattle.step_guards.specs.Guards.{GuardsRest}
use Rattle.step_guards.proofs.Resting.{waits_and}
use Rattle.step_calm.proofs.Resting.{boxes_stir}

-- ---------------------------------------------------------------------------------------------
-- One is quiet.

quiet_at : {W : List Word} {j i : ℕ} → j ≡ i → QuietIn W j j true → QuietIn W i i true
quiet_at {W} e q = subst (λ (x : ℕ). QuietIn W x x true) e q

-- the place stands before the guard, where a rule applies
waits_moves : (W D : List Word) (g j : ℕ) → Waits W g j → QuietIn W j j true → (i : ℕ) × (g < i) × (i < j) × MovedAt W D i true
waits_moves W D g j (inl p) q =
    let i = p.place in
    (i, p.inside, omega (arith, p.here), applied_6 W D i 5 (sym p.takes) refl (quiet_applies W D 6 i (i + 2) true p.asks (quiet_at p.here q)))
waits_moves W D g j (inr p) q = (p.place, p.inside, omega (arith, p.here), go p.asks)
  where
    go : Operator W p.place → MovedAt W D p.place true
    go (inl x) = let i = p.place in applied_7 W D i 6 (sym p.takes) refl (quiet_applies W D 7 i (i + 1) true x (quiet_at p.here q))
    go (inr x) = let i = p.place in applied_8 W D i 6 (sym p.takes) refl (quiet_applies W D 8 i (i + 1) true x (quiet_at p.here q))

module _ {W : List Word} {g : ℕ} {r : Bool} (h : GuardsRest W g r) (D : List Word) where
  pub guards_stir : r ≡ false → (j : ℕ) × (g ≤ j) × (j < behind W g) × Unrest W D g j true
  guards_stir z = go (h.stir z)
    where
      go : BoxesCalm W g false ⊎ ((j : ℕ) × (g ≤ j) × (j < close W g) × Waits W g j × QuietIn W j j true) → (j : ℕ) × (g ≤ j) × (j < behind W g) × Unrest W D g j true
      go (inl x) = boxes_stir x D refl
      go (inr x) =
          let m = waits_moves W D g x.0 x.3 x.4 in
          let a = m.1 in let b = m.2 in let c = x.2 in
          (m.0, omega (arith, a), omega (arith, b, c), place_stirs m.3 a (omega (arith, b, c)) refl)

-- ---------------------------------------------------------------------------------------------
-- None is. A place inside the goal has its guard inside it.

word_goes_on : (w : Word) (W : List Word) (i : ℕ) → (place_takes w W i ≡ 10 → ⊥) → closes w 0 ≡ false
word_goes_on End W i h = absurd (h refl)
word_goes_on (Free v) W i h = refl
word_goes_on (Level v) W i h = refl
word_goes_on (Num v) W i h = refl
word_goes_on (Place k) W i h = refl
word_goes_on (Inner s) W i h = refl
word_goes_on Bad W i h = refl

place_goes_on : (W : List Word) (i : ℕ) → (takes_in W i ≡ 10 → ⊥) → closes (get_or W i Bad) 0 ≡ false
unfolding takes_in
place_goes_on W i h = word_goes_on (get_or W i Bad) W i h

one_goes_on : (W : List Word) (i : ℕ) → one_at W i ≡ true → closes (get_or W (i + 1) Bad) 0 ≡ false
unfolding one_at ends_at
one_goes_on W i e = go (closes (get_or W (i + 1) Bad) 0) _ e
  where
    go : (a b : Bool) → (not a && b) ≡ true → a ≡ false
    go true b z = absurd (false_true z)
    go false b z = refl

box_goes_on : (W : List Word) (j : ℕ) → kind_at W j And ≡ true → closes (get_or W j Bad) 0 ≡ false
box_goes_on W j k = sym (opening_closes (get_or W j Bad) 0 (and_opens W j k))

module _ {W : List Word} {g : ℕ} (c : CanWalk W g) (h : GuardsRest W g true) where
  more : (j : ℕ) → g < j → j ≤ close W g → closes (get_or W j Bad) 0 ≡ false → j < close W g
  more j a b k = inside_more W g c.first (omega (arith, c.whole)) j a b k

  asked : (j : ℕ) → g < j → j ≤ close W g → Waits W g j → QuietIn W j j false
  asked j a b w = h.rest refl j (omega arith) (more j a b (box_goes_on W j (waits_and W g j w))) w

  pub guards_rest : (i : ℕ) → g < i → i < behind W g → NoneQuiet W i
  guards_rest i a b = record {
    promotion = λ t e.
        let k = more i a (omega arith) (place_goes_on W i (λ z. omega (arith, z, t))) in
        let l = more (i + 1) (omega arith) (omega (arith, k)) (one_goes_on W i (tests_6 W i e).0) in
        asked (i + 2) (omega arith) (omega (arith, l)) (inl (record { place = i; here = refl; inside = a; takes = t; asks = e }));
    condition = λ t e. one i a b t (inl e);
    commitment = λ t e. one i a b t (inr e);
  }
    where
      one : (i : ℕ) → g < i → i < behind W g → takes_in W i ≡ 6 → Operator W i → QuietIn W (i + 1) (i + 1) false
      one i a b t o =
          let k = more i a (omega arith) (place_goes_on W i (λ z. omega (arith, z, t))) in
          asked (i + 1) (omega arith) (omega (arith, k)) (inr (record { place = i; here = refl; inside = a; takes = t; asks = o }))
