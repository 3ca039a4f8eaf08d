-- Places by their numbers, in the words of a state's configuration: where they stand, and the argument of a step. Assumes nothing.
use mathlib.Core.Path.{◌≡◌, refl, ap, sym, ◌∙◌, subst}
use mathlib.Core.Bool.{Bool}
use mathlib.Core.List.{List, [], ◌∷◌, ◌++◌}
use mathlib.Core.Option.{Option, some, none}
use Prim.Native.Nat.{ℕ, ◌<◌, ◌≤◌}
use native.Mathlib.Omega.{arith}
use lib.Dec.{eqb, ltb}
use lib.ListN.{length, length-append}
use borrow.Author.Tests.{lt-ltb, le-ltb}
use Rattle.akl.specs.Base.{is_some, if}
use Rattle.akl.specs.Places.{Place, at, place}
use Rattle.akl.specs.Step.{splitting, argument_fits}
use Rattle.mem_words.specs.declared.Word.{Word}
use Rattle.mem_words.specs.declared.Word.TheVariants as word
use Rattle.store_form.specs.State.{State, table, number_in, config_of}
use Rattle.store_form.specs.Form.{config_words}
use Rattle.store_words.specs.Boxes.{node_words}
use Rattle.store_words.specs.Contexts.{before, after, kind_of, place_at}
use Rattle.store_words.proofs.Places.{node_opens, no_place}
use Rattle.rule_effects.specs.Standing.{place_stands}
use Rattle.rule_effects.proofs.Frames.{stands_seg}
use Rattle.step_meant.specs.Meant.{Meant, StandsAt}
use Rattle.step_decide.specs.Decided.{argument_there}

-- ---------------------------------------------------------------------------------------------
-- Places by their numbers.

-- a place stands within the words
pub stands_within : (s : State) (W : List Word) (pl : Place) (i : ℕ) → StandsAt s W pl i → i < length W
stands_within s W (at χ n) i t =
    let num = number_in (table s) in
    let o = node_opens num n (after num χ []) in
    let w : W ≡ before num χ [] ++ (word.Place (kind_of n) ∷ o.0) = stands_seg num t ∙ ap (λ (u : List Word). before num χ [] ++ u) o.1 in
    omega (arith, t.begins, ap length w, length-append (before num χ []) (word.Place (kind_of n) ∷ o.0))

-- the place of a number, or none, by where it stands
pub record Seen (s : State) (W : List Word) (p : ℕ) (o : Option Place) : Type 0 where
  pub past : o ≡ none → place_at W p ≡ length W
  pub there : (pl : Place) → o ≡ some pl → StandsAt s W pl (place_at W p)

pub seen : (W D : List Word) (s : State) (p : ℕ) → Meant W D s → Seen s W p (place (config_of s) p)
unfolding config_words
seen W D s p m =
    let num = number_in (table s) in
    subst (λ (w : List Word). Seen s w p (place (config_of s) p)) (sym m.config) (record { past = no_place num (config_of s) p; there = go })
  where
    go : (pl : Place) → place (config_of s) p ≡ some pl → StandsAt s (node_words (number_in (table s)) s.config.root []) pl (place_at (node_words (number_in (table s)) s.config.root []) p)
    go (at χ n) e = place_stands (number_in (table s)) (config_of s) p χ n [] e

-- A place that is not past the words is one.
pub place_of : (W D : List Word) (s : State) (p : ℕ) → Meant W D s → place_at W p < length W → (pl : Place) × (place (config_of s) p ≡ some pl) × StandsAt s W pl (place_at W p)
place_of W D s p m h = go (place (config_of s) p) refl
  where
    go : (o : Option Place) → place (config_of s) p ≡ o → (pl : Place) × (place (config_of s) p ≡ some pl) × StandsAt s W pl (place_at W p)
    go none e = absurd (omega (arith, h, (seen W D s p m).past e))
    go (some pl) e = (pl, e, (seen W D s p m).there pl e)

pub no_place_of : (W D : List Word) (s : State) (p : ℕ) → Meant W D s → length W ≤ place_at W p → place (config_of s) p ≡ none
no_place_of W D s p m h = go (place (config_of s) p) refl
  where
    go : (o : Option Place) → place (config_of s) p ≡ o → place (config_of s) p ≡ none
    go none e = e
    go (some pl) e = absurd (omega (arith, h, stands_within s W pl (place_at W p) ((seen W D s p m).there pl e)))

-- ---------------------------------------------------------------------------------------------
-- The argument.

pub argument_is : (W D : List Word) (s : State) (r a : ℕ) → Meant W D s → argument_fits (config_of s) r a ≡ argument_there W r a
unfolding argument_fits argument_there
argument_is W D s r a m = go (place (config_of s) a) refl
  where
    go : (o : Option Place) → place (config_of s) a ≡ o → if (eqb r splitting) (is_some (place (config_of s) a)) (eqb a 0) ≡ if (eqb r splitting) (ltb (place_at W a) (length W)) (eqb a 0)
    go none e = ap (λ (b : Bool). if (eqb r splitting) b (eqb a 0)) (ap is_some e ∙ sym (le-ltb (place_at W a) (length W) (omega (arith, (seen W D s a m).past e))))
    go (some pl) e = ap (λ (b : Bool). if (eqb r splitting) b (eqb a 0)) (ap is_some e ∙ sym (lt-ltb (place_at W a) (length W) (stands_within s W pl (place_at W a) ((seen W D s a m).there pl e))))
