-- The brackets around a position, one step outwards at a time. Assumes nothing.
use mathlib.Core.Path.{◌≡◌, refl, ap, sym, ◌∙◌, subst}
use mathlib.Core.Bool.{Bool, true, false, cond}
use mathlib.Core.List.{List, [], ◌∷◌, ◌++◌}
use Prim.Native.Nat.{ℕ, zero, suc, ◌+◌, ◌-◌, ◌≤◌, ◌<◌}
use native.Mathlib.Omega.{arith}
use native.Mathlib.Decide.{dec_lt}
use lib.Dec.{ltb}
use lib.ListN.{length, get_or}
use borrow.Author.Tests.{lt-ltb, le-ltb}
use Rattle.mem_words.specs.declared.Word.{Word}
use Rattle.mem_words.specs.declared.Word.TheVariants.{Bad}
use Rattle.mem_sorts.specs.declared.Kind.TheVariants.{And}
use Rattle.rule_words.specs.Scans.{opens, higher, up, around, close}
use Rattle.rule_words.proofs.Loops.{up_le, close_inside}
use Rattle.rule_effects.specs.Conditions.{kind_at}
use Rattle.rule_ranges.specs.Ranges.{Range, store_range, and_its, ranges, ranges_from}

-- the bracket that is open at a position begins before it
pub around_less : (W : List Word) (i : ℕ) → 0 < i → around W i < i
unfolding around up
around_less W zero h = absurd (omega arith)
around_less W (suc i) h = go (opens (get_or W i Bad) 0)
  where
    go : (b : Bool) → cond b i (up i W (higher (get_or W i Bad) 0)) < suc i
    go true = omega arith
    go false = omega (arith, up_le i W (higher (get_or W i Bad) 0))

-- what a bracket adds stands before the rest
pub its_first : (W : List Word) (o : ℕ) (rs : List Range) → and_its W o rs ≡ and_its W o [] ++ rs
its_first W o rs = go (kind_at W o And)
  where
    go : (b : Bool) → cond b (store_range W o ∷ rs) rs ≡ cond b (store_range W o ∷ []) [] ++ rs
    go true = refl
    go false = refl

pub its_and : (W : List Word) (o : ℕ) → kind_at W o And ≡ true → and_its W o [] ≡ store_range W o ∷ []
its_and W o e = ap (λ (b : Bool). cond b (store_range W o ∷ []) []) e

pub its_other : (W : List Word) (o : ℕ) → kind_at W o And ≡ false → and_its W o [] ≡ []
its_other W o e = ap (λ (b : Bool). cond b (store_range W o ∷ []) []) e

-- nothing is left where the position is at s, or the bracket begins before s
none_at : (W : List Word) (s f i : ℕ) → i ≤ s → ranges f W s i ≡ []
unfolding ranges
none_at W s zero i h = refl
none_at W s (suc f) i h = ap (λ (b : Bool). cond b (cond (ltb (around W i) s) [] (and_its W (around W i) (ranges f W s (around W i)))) []) (le-ltb s i h)

pub none_left : (W : List Word) (s i : ℕ) → i ≤ s → ranges_from W s i ≡ []
unfolding ranges_from
none_left W s i h = none_at W s i i h

none_out : (W : List Word) (s f i : ℕ) → around W i < s → ranges f W s i ≡ []
unfolding ranges
none_out W s zero i h = refl
none_out W s (suc f) i h = go (ltb s i) ∙ refl
  where
    go : (b : Bool) → cond b (cond (ltb (around W i) s) [] (and_its W (around W i) (ranges f W s (around W i)))) [] ≡ []
    go true = ap (λ (b : Bool). cond b [] (and_its W (around W i) (ranges f W s (around W i)))) (lt-ltb (around W i) s h)
    go false = refl

pub none_beyond : (W : List Word) (s i o : ℕ) → o ≡ around W i → o < s → ranges_from W s i ≡ []
unfolding ranges_from
none_beyond W s i o e h = none_out W s i i (omega (arith, e))

next_at : (W : List Word) (s f i : ℕ) → s < i → s ≤ around W i → ranges (suc f) W s i ≡ and_its W (around W i) (ranges f W s (around W i))
unfolding ranges
next_at W s f i h g = ap (λ (b : Bool). cond b (cond (ltb (around W i) s) [] (and_its W (around W i) (ranges f W s (around W i)))) []) (lt-ltb s i h) ∙ ap (λ (b : Bool). cond b [] (and_its W (around W i) (ranges f W s (around W i)))) (le-ltb (around W i) s g)

-- more brackets may be passed than there are
enough : (W : List Word) (s f g i : ℕ) → i ≤ f → i ≤ g → ranges f W s i ≡ ranges g W s i
enough W s zero g i h k = none_at W s zero i (omega arith) ∙ sym (none_at W s g i (omega arith))
enough W s (suc f) zero i h k = none_at W s (suc f) i (omega arith) ∙ sym (none_at W s zero i (omega arith))
enough W s (suc f) (suc g) i h k = go (λ l m. enough W s f g (around W i) l m) (dec_lt s i) (dec_lt (around W i) s)
  where
    go : (around W i ≤ f → around W i ≤ g → ranges f W s (around W i) ≡ ranges g W s (around W i)) → Dec (s < i) → Dec (around W i < s) → ranges (suc f) W s i ≡ ranges (suc g) W s i
    go ih (no l) d = none_at W s (suc f) i (omega arith) ∙ sym (none_at W s (suc g) i (omega arith))
    go ih (yes l) (yes d) = none_out W s (suc f) i d ∙ sym (none_out W s (suc g) i d)
    go ih (yes l) (no d) = next_at W s f i l (omega arith) ∙ ap (and_its W (around W i)) (ih (omega (arith, around_less W i (omega arith))) (omega (arith, around_less W i (omega arith)))) ∙ sym (next_at W s g i l (omega arith))

-- else one bracket is passed
pub next_around : (W : List Word) (s i o : ℕ) → o ≡ around W i → s < i → s ≤ o → ranges_from W s i ≡ and_its W o [] ++ ranges_from W s o
unfolding ranges_from
next_around W s zero o e h g = absurd (omega arith)
next_around W s (suc i) o e h g = subst (λ (x : ℕ). ranges_from W s (suc i) ≡ and_its W x [] ++ ranges_from W s x) (sym e) (step (omega (arith, e)) (around_less W (suc i) (omega arith)))
  where
    step : s ≤ around W (suc i) → around W (suc i) < suc i → ranges_from W s (suc i) ≡ and_its W (around W (suc i)) [] ++ ranges_from W s (around W (suc i))
    step g l = next_at W s i (suc i) h g ∙ ap (and_its W (around W (suc i))) (enough W s i (around W (suc i)) (around W (suc i)) (omega arith) (omega arith)) ∙ its_first W (around W (suc i)) (ranges (around W (suc i)) W s (around W (suc i)))

-- the store of an and-box closes behind where it begins
pub closes_behind : (W : List Word) (u : ℕ) → u + 2 ≤ length W → u + 2 ≤ close W (u + 1)
closes_behind W u h = omega (arith, close_inside W (u + 1) (omega arith))
