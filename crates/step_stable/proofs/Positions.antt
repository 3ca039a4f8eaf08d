-- The places of a goal stand between its first word and its End, and every place that stands there is one of them.
use mathlib.Core.Path.{◌≡◌, sym, subst}
use mathlib.Core.List.{List, []}
use mathlib.Core.Option.{some}
use Prim.Native.Nat.{ℕ, ◌+◌, ◌<◌, ◌≤◌}
use native.Mathlib.Omega.{arith}
use lib.Dec.{T, leb, ltb, leb→le, le→leb, ltb→lt, lt→ltb}
use Rattle.constraint.proofs.Lists.{and_T}
use Rattle.akl.specs.Base.{nth}
use Rattle.akl.specs.Configuration.{Kind, Node, Ctx, plug}
use Rattle.akl.specs.Places.{Place, at, places, place, place_number, inside}
use Rattle.accept.proofs.PlaceLaws.{size_places, place_of, place_numbered}
use Rattle.accept.proofs.Within.{Inside}
use Rattle.accept.proofs.Stable.{inside_T}
use Rattle.mem_words.specs.declared.Word.{Word}
use Rattle.store_words.specs.Contexts.{place_at}
use Rattle.store_form.specs.State.{State, table, number_in}
use Rattle.store_form.specs.Form.{config_words}
use Rattle.store_form.specs.Holding.{Fits}
use Rattle.rule_effects.specs.Effects.{behind}
use Rattle.rule_effects.specs.Standing.{place_stands}
use Rattle.rule_holds.specs.Holding.{within_at}
use Rattle.rule_holds.proofs.Inside.{inside_words}
use Rattle.step_meant.specs.Meant.{StandsAt}
use Rattle.step_stable.proofs.Tests.{nth_below}
use Rattle.step_stable.proofs.Here.{here_there, there_here}
use Rattle.step_meant.proofs.Whole.{whole_is}

within_T : (W : List Word) (g j : ℕ) → T (within_at W g j) → (g ≤ j) × (j < behind W g)
unfolding within_at
within_T W g j t =
    let h = (and_T (leb g j) (ltb j (behind W g))).0 t in
    (leb→le g j h.0, ltb→lt j (behind W g) h.1)

T-within : (W : List Word) (g j : ℕ) → g ≤ j → j < behind W g → T (within_at W g j)
unfolding within_at
T-within W g j a b = (and_T (leb g j) (ltb j (behind W g))).1 (le→leb g j a, lt→ltb j (behind W g) b)

-- a place stands where its number says
pub stands_place : (s : State) (p : ℕ) (pl : Place) → place s.config p ≡ some pl → StandsAt s (config_words s) pl (place_at (config_words s) p)
unfolding config_words
stands_place s p (at χ n) e = place_stands (number_in (table s)) s.config p χ n [] e

module _ (limit : ℕ) (s : State) (F : Fits limit s) (W : List Word) (w : W ≡ config_words s) {k : Kind} (χ : Ctx k) (n : Node k) (g : ℕ) (h : StandsAt s W (at χ n) g) where
  pub its_root : plug χ n ≡ s.config.root
  its_root = whole_is limit s F W w (at χ n) g h

  -- one that stands in the words is the goal's or inside it exactly where it stands in the goal
  inside_at : {j : Kind} (χ' : Ctx j) (m : Node j) (i : ℕ) → StandsAt s W (at χ' m) i → inside χ n (place_number χ') ≡ within_at W g i
  inside_at χ' m i t = inside_words (number_in (table s)) h t

  -- Each of the goal's places stands in the goal.
  pub place_stands_in : (q : ℕ) (pl : Place) → nth (places n χ) q ≡ some pl → (j : ℕ) × StandsAt s W pl j × (g ≤ j) × (j < behind W g)
  place_stands_in q pl e = go pl (here_there s.config χ n its_root q pl e) (here_inside q pl e)
    where
      go : (pl : Place) → place s.config (place_number χ + q) ≡ some pl → Inside χ n (place_number χ + q) → (j : ℕ) × StandsAt s W pl j × (g ≤ j) × (j < behind W g)
      go (at χ' m) f i =
          let t : StandsAt s W (at χ' m) (place_at W (place_number χ + q)) = subst (λ (u : List Word). StandsAt s u (at χ' m) (place_at u (place_number χ + q))) (sym w) (stands_place s (place_number χ + q) (at χ' m) f) in
          let b = within_T W g (place_at W (place_number χ + q)) (subst T (inside_at χ' m (place_at W (place_number χ + q)) t) ((inside_T χ n (place_number χ')).1 (subst (Inside χ n) (sym (place_numbered s.config (place_number χ + q) χ' m f)) i))) in
          (place_at W (place_number χ + q), t, b.0, b.1)

      here_inside : (q : ℕ) (pl : Place) → nth (places n χ) q ≡ some pl → Inside χ n (place_number χ + q)
      here_inside q pl e = (omega arith, omega (arith, size_places n χ, nth_below (places n χ) q pl e))

  -- Each place that stands in the goal is one of them.
  pub stands_in_place : (pl : Place) (j : ℕ) → StandsAt s W pl j → g ≤ j → j < behind W g → (q : ℕ) × (nth (places n χ) q ≡ some pl)
  stands_in_place (at χ' m) j t a b =
      let f = place_of χ' m s.config (whole_is limit s F W w (at χ' m) j t) in
      let i = (inside_T χ n (place_number χ')).0 (subst T (sym (inside_at χ' m j t)) (T-within W g j a b)) in
      there_here s.config χ n its_root (place_number χ') (at χ' m) f i
