-- A place begins where the kind that is read is one.
use mathlib.Core.Path.{◌≡◌, refl, ap, sym, ◌∙◌, subst}
use mathlib.Core.List.{List, [], ◌∷◌}
use mathlib.Core.Option.{Option, some, none}
use Prim.Native.Nat.{ℕ, zero, suc, ◌<◌, ◌≤◌}
use native.Mathlib.Omega.{arith}
use lib.ListN.{length, get_or, take}
use Rattle.akl.specs.Configuration.{goal, Config}
use Rattle.akl.specs.Places as places
use Rattle.akl.specs.Places.{at, place}
use Rattle.akl.specs.Table as akl_table
use Rattle.mem_words.specs.declared.Word.{Word}
use Rattle.mem_words.specs.declared.Word.TheVariants.{End, Free, Level, Num, Place, Inner, Bad}
use Rattle.store_words.specs.Boxes.{node_words}
use Rattle.store_words.specs.Contexts.{places_in, place_at}
use Rattle.store_words.proofs.Places.{no_place}
use Rattle.store_form.specs.State.{State, table, number_in}
use Rattle.store_form.specs.Form.{config_words}
use Rattle.rule_words.proofs.Loops.{close_le}
use Rattle.rule_effects.specs.Effects.{behind}
use Rattle.rule_effects.specs.Standing.{Stands, place_stands}
use Rattle.rule_kinds.specs.Kinds.{place_takes, takes_in}
use Rattle.rule_kinds.proofs.KindWords.{kind_words}
use Rattle.step_meant.specs.Meant.{Meant, StandsAt}
use Rattle.step_meant.specs.Asked.{CanAsk}
use Rattle.step_unrest.specs.Disturbing.{CanPlace}

begins : Word → ℕ
begins End = 0
begins (Free v) = 0
begins (Level v) = 0
begins (Num v) = 0
begins (Place k) = 1
begins (Inner s) = 0
begins Bad = 0

takes_begins : (w : Word) (W : List Word) (i : ℕ) → (place_takes w W i ≡ 10 → ⊥) → begins w ≡ 1
unfolding begins
takes_begins End W i h = absurd (h refl)
takes_begins (Free v) W i h = absurd (h refl)
takes_begins (Level v) W i h = absurd (h refl)
takes_begins (Num v) W i h = absurd (h refl)
takes_begins (Place k) W i h = refl
takes_begins (Inner s) W i h = absurd (h refl)
takes_begins Bad W i h = absurd (h refl)

-- it is the place that as many places before it say
place_found : (W : List Word) (o : ℕ) → begins (get_or W o Bad) ≡ 1 → place_at W (places_in (take o W)) ≡ o
unfolding place_at places_in begins
place_found [] o h = absurd (omega (arith, h))
place_found (End ∷ W) zero h = absurd (omega (arith, h))
place_found (End ∷ W) (suc o) h = ap suc (place_found W o h)
place_found (Free x ∷ W) zero h = absurd (omega (arith, h))
place_found (Free x ∷ W) (suc o) h = ap suc (place_found W o h)
place_found (Level x ∷ W) zero h = absurd (omega (arith, h))
place_found (Level x ∷ W) (suc o) h = ap suc (place_found W o h)
place_found (Num x ∷ W) zero h = absurd (omega (arith, h))
place_found (Num x ∷ W) (suc o) h = ap suc (place_found W o h)
place_found (Place k ∷ W) zero h = refl
place_found (Place k ∷ W) (suc o) h = ap suc (place_found W o h)
place_found (Inner x ∷ W) zero h = absurd (omega (arith, h))
place_found (Inner x ∷ W) (suc o) h = ap suc (place_found W o h)
place_found (Bad ∷ W) zero h = absurd (omega (arith, h))
place_found (Bad ∷ W) (suc o) h = ap suc (place_found W o h)

place_within : (W : List Word) (o : ℕ) → begins (get_or W o Bad) ≡ 1 → o < length W
unfolding begins
place_within [] o h = absurd (omega (arith, h))
place_within (w ∷ W) zero h = omega arith
place_within (w ∷ W) (suc o) h = omega (arith, place_within W o h)

place_in : (s : State) (j : ℕ) → begins (get_or (config_words s) j Bad) ≡ 1 → (pl : places.Place) × StandsAt s (config_words s) pl j
unfolding config_words
place_in s j h = go (place c p) refl
  where
    c : Config
    c = s.config

    W : List Word
    W = node_words (number_in (table s)) s.config.root []

    p : ℕ
    p = places_in (take j W)

    f : place_at W p ≡ j
    f = place_found W j h

    go : (x : Option places.Place) → place c p ≡ x → (pl : places.Place) × StandsAt s W pl j
    go none e = absurd (omega (arith, f, no_place (number_in (table s)) c p e, place_within W j h))
    go (some (at χ n)) e = (at χ n, subst (Stands (number_in (table s)) χ n [] W) f (place_stands (number_in (table s)) c p χ n [] e))

-- The place that begins at j.
pub place_there : (W D : List Word) (j : ℕ) (s : State) → Meant W D s → (takes_in W j ≡ 10 → ⊥) → (pl : places.Place) × StandsAt s W pl j
unfolding takes_in
place_there W D j s m h =
    let b = subst (λ (U : List Word). begins (get_or U j Bad) ≡ 1) m.config (takes_begins (get_or W j Bad) W j h) in
    subst (λ (U : List Word). (pl : places.Place) × StandsAt s U pl j) (sym m.config) (place_in s j b)

-- the kind that is read is that of the place
pub kind_is : (W : List Word) (j : ℕ) (s : State) (pl : places.Place) → StandsAt s W pl j → takes_in W j ≡ akl_table.takes_number (akl_table.kind_at pl)
kind_is W j s (at χ n) p = kind_words (number_in (table s)) n p

-- ten is the number of none
pub below_ten : (t : akl_table.Takes) → akl_table.takes_number t < 10
below_ten akl_table.constraint_atom = omega arith
below_ten akl_table.program_atom = omega arith
below_ten akl_table.composition = omega arith
below_ten akl_table.hiding = omega arith
below_ten akl_table.choice_statement = omega arith
below_ten akl_table.choice_box_place = omega arith
below_ten akl_table.guarded_goal = omega arith
below_ten akl_table.and_box = omega arith
below_ten akl_table.inner_or_box = omega arith
below_ten akl_table.other_or_box = omega arith

pub no_place_there : (W : List Word) (j : ℕ) (s : State) (pl : places.Place) → StandsAt s W pl j → 10 ≤ takes_in W j → ⊥
no_place_there W j s pl p e = let k = kind_is W j s pl p in let b = below_ten (akl_table.kind_at pl) in omega (arith, k, b, e)

-- positions in a goal are positions of the words
pub inside_low : (W : List Word) (g j : ℕ) → j < behind W g → j ≤ length W
inside_low W g j h = let l = close_le W g in omega (arith, h, l)

pub can_place : (W D : List Word) (g j k : ℕ) → CanAsk W D g → g ≤ j → j < behind W g → k ≡ takes_in W j → (k ≡ 10 → ⊥) → CanPlace W D g j
can_place W D g j k c a b e h =
    let p = place_there W D j c.state c.meant (λ z. h (e ∙ z)) in
    record { state = c.state; goal = c.goal; place = p.0; meant = c.meant; goal_stands = c.stands; stands = p.1; from = a; to = b }
