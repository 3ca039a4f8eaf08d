-- A goal that stands in the words of a state can be walked over: it is a bracket that closes, and the solver has room for the stores around
-- it and down to each and-box in it. Assumes nothing.
use mathlib.Core.Path.{◌≡◌, refl, sym, subst}
use mathlib.Core.Bool.{true}
use mathlib.Core.List.{List, []}
use Prim.Native.Nat.{ℕ, ◌<◌, ◌≤◌}
use native.Mathlib.Omega.{arith}
use lib.Dec.{eqb}
use lib.ListN.{length, get_or}
use Rattle.akl.specs.Places.{Place, at}
use Rattle.mem_words.specs.declared.Word.{Word}
use Rattle.mem_words.specs.declared.Word.TheVariants as words
use Rattle.mem_sorts.specs.declared.Kind.TheVariants.{And}
use Rattle.store_form.specs.State.{State, table, number_in}
use Rattle.store_room.proofs.Placed.{room_place}
use Rattle.store_room.proofs.Drawing.{roomy_stores}
use Rattle.rule_words.specs.Scans.{opens}
use Rattle.rule_effects.specs.Effects.{behind}
use Rattle.rule_effects.specs.Conditions.{kind_in, kind_at}
use Rattle.rule_effects.specs.Standing.{Stands}
use Rattle.rule_kinds.specs.Kinds.{place_takes, takes_in}
use Rattle.rule_ranges.specs.Ranges.{ranges_from}
use Rattle.rule_ranges.specs.Asked.{Roomy, RoomFor}
use Rattle.step_meant.specs.Meant.{Meant, StandsAt}
use Rattle.step_meant.specs.Asked.{CanAsk}
use Rattle.step_applies.proofs.Meanings.{stands_behind, root_is}
use Rattle.step_unrest.proofs.Placing.{can_place}
use Rattle.step_unrest.proofs.Resting.{can_quiet_in}
use Rattle.step_open.proofs.Turns.{false_true}
use Rattle.step_calm.proofs.Standing.{and_takes, stands_opens, stands_whole}
use Rattle.step_turn.specs.Stood.{CanWalk}

-- the place of an and-box takes the rules of and-boxes, whatever its word
word_takes : (w : Word) (W : List Word) (j : ℕ) → eqb (kind_in w) 1 ≡ true → place_takes w W j ≡ 7
word_takes words.End W j e = absurd (false_true e)
word_takes (words.Free v) W j e = absurd (false_true e)
word_takes (words.Level v) W j e = absurd (false_true e)
word_takes (words.Num v) W j e = absurd (false_true e)
word_takes (words.Place k) W j e = and_takes k W j e
word_takes (words.Inner s) W j e = absurd (false_true e)
word_takes words.Bad W j e = absurd (false_true e)

and_box_takes : (W : List Word) (j : ℕ) → kind_at W j And ≡ true → takes_in W j ≡ 7
unfolding kind_at takes_in
and_box_takes W j e = word_takes (get_or W j words.Bad) W j e

module _ (W D : List Word) (g : ℕ) (c : CanAsk W D g) where
  goal_around : (s : State) (pl : Place) → Meant W D s → StandsAt s W pl g → (opens (get_or W g words.Bad) 0 ≡ true) × (behind W g ≤ length W) × RoomFor W (ranges_from W 0 g)
  goal_around s (at χ n) m p =
      let num = number_in (table s) in
      let q = subst (λ (X : List Word). Stands num χ n [] X g) m.config p in
      (stands_opens num p, stands_whole num p, subst (λ (X : List Word). RoomFor X (ranges_from X 0 g)) (sym m.config) (room_place s m.stands χ n g (root_is m p) q))

  pub can_walk : CanWalk W g
  can_walk =
      let a = goal_around c.state c.goal c.meant c.stands in
      record {
        roomy = subst Roomy (sym c.meant.config) (roomy_stores c.state c.meant.stands);
        first = a.0;
        whole = a.1;
        around = a.2;
        inside = λ j p q e. let t = and_box_takes W j e in (can_quiet_in W D g j p q 7 (can_place W D g j 7 c p q (sym t) (λ z. omega (arith, z))) (sym t) refl).room;
      }

  -- and it does not end before it begins
  pub goal_order : g < behind W g
  goal_order = go c.goal c.stands
    where
      go : (pl : Place) → StandsAt c.state W pl g → g < behind W g
      go (at χ n) p = stands_behind (number_in (table c.state)) p
