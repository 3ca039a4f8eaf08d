-- The condition of a step: the rule applies, and the argument of rule 12 is the place of a stable goal that is or holds the box.
-- Assumes nothing.
use mathlib.Core.Path.{◌≡◌, refl, ap, sym, ◌∙◌, subst}
use mathlib.Core.Bool.{Bool, true, false, ◌&&◌}
use mathlib.Core.List.{List}
use mathlib.Core.Option.{some}
use Prim.Native.Nat.{ℕ, ◌<◌}
use lib.Dec.{T, eqb, ltb, ltb→lt}
use lib.ListN.{length}
use borrow.Author.Tests.{eq-eqb, ne_eqb}
use Rattle.akl.specs.Base.{if}
use Rattle.akl.specs.Places.{Place, at, place}
use Rattle.akl.specs.Stability.{stable}
use Rattle.akl.specs.Step.{argument_stable, stable_around, holds_box, box_of}
use Rattle.mem_words.specs.declared.Word.{Word}
use Rattle.store_form.specs.State.{State, table, number_in, program_of, config_of}
use Rattle.store_words.specs.Contexts.{place_at}
use Rattle.rule_holds.specs.Holding.{holds_in}
use Rattle.rule_holds.proofs.Inside.{holds_words}
use Rattle.step_meant.specs.Meant.{Meant, StandsAt}
use Rattle.step_meant.specs.Asked.{Applies, CanApply, IsStable, CanAsk}
use Rattle.step_decide.specs.Decided.{argument_there, CanTake, AsksStable, HasCondition}
use Rattle.step_decide.proofs.Places.{place_of}

-- ---------------------------------------------------------------------------------------------
-- The argument as it must be, by the rule's number.

pub there_12 : (W : List Word) (r a g : ℕ) (b : Bool) → r ≡ 12 → g ≡ place_at W a → b ≡ ltb g (length W) → b ≡ argument_there W r a
unfolding argument_there
there_12 W r a g b e f h = h ∙ ap (λ (j : ℕ). ltb j (length W)) f ∙ ap (λ (j : ℕ). argument_there W j a) (sym e)

pub there_other : (W : List Word) (r a : ℕ) (b : Bool) → ¬ (r ≡ 12) → b ≡ eqb a 0 → b ≡ argument_there W r a
unfolding argument_there
there_other W r a b n e = e ∙ sym (ap (λ (x : Bool). if x (ltb (place_at W a) (length W)) (eqb a 0)) (ne_eqb r 12 n))

pub argument_within : (W : List Word) (r a : ℕ) → r ≡ 12 → argument_there W r a ≡ true → place_at W a < length W
argument_within W r a e h = ltb→lt (place_at W a) (length W) (subst T (sym (there_12 W r a (place_at W a) (ltb (place_at W a) (length W)) e refl refl ∙ h)) tt)

-- ---------------------------------------------------------------------------------------------
-- The stable goal.

held_box : (s : State) (W : List Word) (g i : ℕ) (q pl : Place) → StandsAt s W q g → StandsAt s W pl i → holds_box q (box_of pl) ≡ holds_in W g i
held_box s W g i (at χ n) (at χ' m) x y = holds_words (number_in (table s)) x y

module _ (W D : List Word) (r a i : ℕ) where
  pub asks_none : ¬ (r ≡ 12) → AsksStable W D r a i true
  unfolding argument_stable
  asks_none n = record { right = λ s pl m t. sym (ap (λ (x : Bool). if x (stable_around (program_of s) (config_of s) pl (place (config_of s) a)) true) (ne_eqb r 12 n)) }

  -- rule 12, its argument's place standing at g
  module _ (g : ℕ) (e : r ≡ 12) (f : g ≡ place_at W a) (there : argument_there W r a ≡ true) where
    goal_there : (D' : List Word) (s : State) → Meant W D' s → (q : Place) × (place (config_of s) a ≡ some q) × StandsAt s W q g
    goal_there D' s m =
        let h = place_of W D' s a m (argument_within W r a e there) in
        (h.0, h.1, subst (λ (j : ℕ). StandsAt s W h.0 j) (sym f) h.2)

    pub can_ask : CanTake W D r a i → CanAsk W D g
    can_ask c = let h = goal_there D c.state c.meant in record { state = c.state; goal = h.0; meant = c.meant; stands = h.2 }

    by_goal : (s : State) (pl q : Place) → place (config_of s) a ≡ some q → argument_stable (program_of s) (config_of s) r pl a ≡ holds_box q (box_of pl) && stable (program_of s) (config_of s) q
    unfolding argument_stable
    by_goal s pl q h =
        ap (λ (x : Bool). if x (stable_around (program_of s) (config_of s) pl (place (config_of s) a)) true) (eq-eqb r 12 e)
        ∙ ap (stable_around (program_of s) (config_of s) pl) h

    pub asks_unheld : (b : Bool) → b ≡ holds_in W g i → b ≡ false → AsksStable W D r a i false
    asks_unheld b k z = record {
      right = λ s pl m t.
          let h = goal_there D s m in
          sym (by_goal s pl h.0 h.1 ∙ ap (λ (x : Bool). x && stable (program_of s) (config_of s) h.0) (held_box s W g i h.0 pl h.2 t.stands ∙ sym k ∙ z));
    }

    pub asks_held : (c b : Bool) → c ≡ holds_in W g i → c ≡ true → IsStable W D g b → AsksStable W D r a i b
    asks_held c b k z x = record {
      right = λ s pl m t.
          let h = goal_there D s m in
          x.right s h.0 m h.2 ∙ sym (by_goal s pl h.0 h.1 ∙ ap (λ (y : Bool). y && stable (program_of s) (config_of s) h.0) (held_box s W g i h.0 pl h.2 t.stands ∙ sym k ∙ z));
    }

-- ---------------------------------------------------------------------------------------------
-- Both.

pub can_apply : {W D : List Word} {r a i : ℕ} → CanTake W D r a i → CanApply W D r i
can_apply c = record { state = c.state; place = c.place; meant = c.meant; takes = c.takes }

module _ (W D : List Word) (r a i : ℕ) where
  pub applies_not : (c : Bool) → Applies W D r i c → c ≡ false → HasCondition W D r a i false
  applies_not c x e = record { right = λ s pl m t. ap (λ (b : Bool). b && argument_stable (program_of s) (config_of s) r pl a) (sym e ∙ x.right s pl m t) }

  pub applies_asked : (c b : Bool) → Applies W D r i c → c ≡ true → AsksStable W D r a i b → HasCondition W D r a i b
  applies_asked c b x e y = record { right = λ s pl m t. y.right s pl m t ∙ ap (λ (z : Bool). z && argument_stable (program_of s) (config_of s) r pl a) (sym e ∙ x.right s pl m t) }
