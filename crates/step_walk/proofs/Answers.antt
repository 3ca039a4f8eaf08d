-- The walk's answers, at an and-box that is not calm and at the goal's end; the search for an and-box. Assumes nothing.
use mathlib.Core.Path.{◌≡◌, refl, ap, sym, ◌∙◌, subst}
use mathlib.Core.Bool.{Bool, true, false}
use mathlib.Core.Logic.{inl, inr}
use mathlib.Core.List.{List}
use Prim.Native.Nat.{ℕ, ◌+◌, ◌-◌, ◌≤◌, ◌<◌}
use native.Mathlib.Omega.{arith}
use native.Mathlib.Decide.{dec_lt, ℕ_discrete}
use lib.ListN.{length, get_or}
use Rattle.mem_words.specs.declared.Word.{Word}
use Rattle.mem_words.specs.declared.Word.TheVariants.{Bad}
use Rattle.mem_sorts.specs.declared.Kind.TheVariants.{And}
use Rattle.rule_words.specs.Scans.{close}
use Rattle.rule_words.proofs.Loops.{close_inside, close_past}
use Rattle.rule_effects.specs.Effects.{behind}
use Rattle.rule_effects.specs.Conditions.{kind_at}
use Rattle.rule_ranges.specs.Asked.{SatIn, QuietIn}
use Rattle.step_open.specs.Opened.{Opened}
use Rattle.step_open.proofs.Turns.{false_true, opening_closes, and_opens}
use Rattle.step_open.proofs.Chains.{opened_last}
use Rattle.step_turn.specs.Boxes.{places}
use Rattle.step_turn.specs.Stood.{CanWalk, Unsolved}
use Rattle.step_walk.specs.Calm.{BoxesCalm, Boxed, Walks}

module _ (W : List Word) (g : ℕ) where
  -- an and-box at j has no solution, or is not quiet
  pub boxes_none : (j : ℕ) → g ≤ j → j < close W g → Unsolved W j → BoxesCalm W g false
  boxes_none j a b l = record { calm = λ e. absurd (false_true e); loud = λ e. (j, a, omega arith, l.kind, inl l.none) }

  pub boxes_loud : (j : ℕ) (b r : Bool) → g ≤ j → j < close W g → b ≡ kind_at W j And → b ≡ true → QuietIn W g j r → r ≡ false → BoxesCalm W g false
  boxes_loud j b r a l e h q z = record { calm = λ y. absurd (false_true y); loud = λ y. (j, a, omega arith, sym e ∙ h, inr (subst (QuietIn W g j) z q)) }

  -- the goal has two words at least, and its last is no and-box's first
  pub goal_first : CanWalk W g → g < close W g
  goal_first c = go (dec_lt g (length W))
    where
      go : Dec (g < length W) → g < close W g
      go (yes h) = omega (arith, close_inside W g h)
      go (no h) = absurd (omega (arith, c.whole, close_past W g (omega arith)))

  pub goal_last : (os : List ℕ) → CanWalk W g → Opened W g (close W g) os → kind_at W (close W g) And ≡ true → ⊥
  goal_last os c o k = opened_last W g (close W g) os (omega (arith, c.whole)) refl (goal_first c) o (sym (opening_closes (get_or W (close W g) Bad) 0 (and_opens W (close W g) k)))

  -- all were
  pub boxes_calm : {from j d k u n a : ℕ} {X : List ℕ} → CanWalk W g → Walks W g from X j d k u n a → j ≡ close W g → BoxesCalm W g true
  boxes_calm {from} {j} c s e = record { calm = λ r i a b h. go i a b h (dec_lt i j); loud = λ r. absurd (false_true (sym r)) }
    where
      go : (i : ℕ) → g ≤ i → i < behind W g → kind_at W i And ≡ true → Dec (i < j) → SatIn W i true × QuietIn W g i true
      go i a b h (yes l) = s.calm.at i a l h
      go i a b h (no l) =
          let q : i ≡ close W g = omega (arith, e) in
          absurd (goal_last (places s.stood.brackets) c (subst (λ (x : ℕ). Opened W g x (places s.stood.brackets)) e s.stood.opened) (subst (λ (x : ℕ). kind_at W x And ≡ true) q h))

-- no and-box was found before j
pub record Searched (W : List Word) (g j : ℕ) : Type 0 where
  pub none : (i : ℕ) → g ≤ i → i < j → kind_at W i And ≡ true → ⊥

module _ (W : List Word) (g : ℕ) where
  pub searched_first : Searched W g g
  searched_first = record { none = λ i a b h. omega arith }

  pub searched_next : (j : ℕ) (b : Bool) → b ≡ kind_at W j And → b ≡ false → Searched W g j → Searched W g (j + 1)
  searched_next j b e f p = record { none = λ i a l h. go i a l h (ℕ_discrete i j) }
    where
      go : (i : ℕ) → g ≤ i → i < j + 1 → kind_at W i And ≡ true → Dec (i ≡ j) → ⊥
      go i a l h (yes q) = false_true (sym f ∙ e ∙ ap (λ (x : ℕ). kind_at W x And) (sym q) ∙ h)
      go i a l h (no q) = p.none i a (omega arith) h

  pub searched_found : (j : ℕ) (b : Bool) → g ≤ j → j < behind W g → b ≡ kind_at W j And → b ≡ true → Boxed W g false
  searched_found j b a l e f = record { none = λ r. absurd (false_true r); some = λ r. (j, a, l, sym e ∙ f) }

  pub searched_all : (j : ℕ) → behind W g ≤ j → Searched W g j → Boxed W g true
  searched_all j l p = record { none = λ r i a b h. p.none i a (omega arith) h; some = λ r. absurd (false_true (sym r)) }
