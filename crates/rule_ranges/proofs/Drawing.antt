-- The ranges around any position are stores of and-boxes, so they have no variables but theirs.
use mathlib.Core.Path.{◌≡◌, refl}
use mathlib.Core.Bool.{Bool, true, false, cond}
use mathlib.Core.List.{List, [], ◌∷◌, ◌++◌}
use Prim.Native.Nat.{ℕ, zero, suc}
use lib.Dec.{ltb}
use Rattle.mem_words.specs.declared.Word.{Word}
use Rattle.mem_sorts.specs.declared.Kind.TheVariants.{And}
use Rattle.rule_words.specs.Scans.{around}
use Rattle.rule_effects.specs.Conditions.{kind_at}
use Rattle.rule_ranges.specs.Ranges.{Range, store_range, and_its, ranges, ranges_from}
use Rattle.rule_ranges.specs.Asked.{StoresDrawn, RangesDrawn}

pub ranges_drawn : (W : List Word) (vs : List ℕ) → StoresDrawn W vs → (f i j : ℕ) → RangesDrawn W (ranges f W i j) vs
unfolding ranges RangesDrawn
ranges_drawn W vs d zero i j = tt
ranges_drawn W vs d (suc f) i j = outer (ltb i j) (inner (ltb (around W j) i) (store (kind_at W (around W j) And) refl (ranges_drawn W vs d f i (around W j))))
  where
    store : (b : Bool) → kind_at W (around W j) And ≡ b → RangesDrawn W (ranges f W i (around W j)) vs → RangesDrawn W (cond b (store_range W (around W j) ∷ ranges f W i (around W j)) (ranges f W i (around W j))) vs
    store true e r = (d.at (around W j) e, r)
    store false e r = r

    inner : (b : Bool) → RangesDrawn W (and_its W (around W j) (ranges f W i (around W j))) vs → RangesDrawn W (cond b [] (and_its W (around W j) (ranges f W i (around W j)))) vs
    inner true r = tt
    inner false r = r

    outer : (b : Bool) → RangesDrawn W (cond (ltb (around W j) i) [] (and_its W (around W j) (ranges f W i (around W j)))) vs → RangesDrawn W (cond b (cond (ltb (around W j) i) [] (and_its W (around W j) (ranges f W i (around W j)))) []) vs
    outer true r = r
    outer false r = tt

pub from_drawn : (W : List Word) (vs : List ℕ) → StoresDrawn W vs → (i j : ℕ) → RangesDrawn W (ranges_from W i j) vs
unfolding ranges_from
from_drawn W vs d i j = ranges_drawn W vs d j i j

-- of ranges side by side
pub drawn_both : (W : List Word) (a b : List Range) (vs : List ℕ) → RangesDrawn W a vs → RangesDrawn W b vs → RangesDrawn W (a ++ b) vs
unfolding RangesDrawn
drawn_both W [] b vs p q = q
drawn_both W (r ∷ a) b vs p q = (p.0, drawn_both W a b vs p.1 q)

pub drawn_left : (W : List Word) (a b : List Range) (vs : List ℕ) → RangesDrawn W (a ++ b) vs → RangesDrawn W a vs
unfolding RangesDrawn
drawn_left W [] b vs p = tt
drawn_left W (r ∷ a) b vs p = (p.0, drawn_left W a b vs p.1)

pub drawn_right : (W : List Word) (a b : List Range) (vs : List ℕ) → RangesDrawn W (a ++ b) vs → RangesDrawn W b vs
unfolding RangesDrawn
drawn_right W [] b vs p = p
drawn_right W (r ∷ a) b vs p = drawn_right W a b vs p.1
