-- A turn of each scan: what it comes to by the word that is looked at.
use mathlib.Core.Path.{◌≡◌, refl, ap, ap₂, sym, ◌∙◌}
use mathlib.Core.Bool.{Bool, true, false, cond}
use mathlib.Core.List.{List, [], ◌∷◌}
use Prim.Native.Nat.{ℕ, zero, suc, ◌+◌, ◌-◌, ◌<◌, ◌≤◌}
use native.Mathlib.Numerals.{add-one, sub-one}
use native.Mathlib.Nat.{not-suc-le-zero}
use native.Mathlib.Omega.{arith}
use lib.ListN.{length, get_or, drop, length-drop, drop_of_length-le}
use lib.Seq.{drop-cons}
use Rattle.mem_words.specs.declared.Word.{Word}
use Rattle.mem_words.specs.declared.Word.TheVariants.{End, Free, Level, Num, Place, Inner, Bad}
use Rattle.rule_words.specs.Scans.{closes, deeper, upto, close, opens, higher, up, around}

-- where it closes is the place of that End, or the end of the words
pub close_inside : (W : List Word) (i : ℕ) → i < length W → close W i ≡ i + 1 + upto (drop (i + 1) W) 0
unfolding close
close_inside W i h = omega (arith, length-drop (i + 1) W)

pub close_past : (W : List Word) (i : ℕ) → length W ≤ i → close W i ≡ length W
unfolding close upto
close_past W i h =
    let g : length W ≤ i + 1 = omega arith in
    ap (λ (l : List Word). length W - length l + upto l 0) (drop_of_length-le W g) ∙ omega arith

upto_next : (W : List Word) (j d : ℕ) (w : Word) → j < length W → w ≡ get_or W j Bad → upto (drop j W) d ≡ cond (closes w d) 0 (suc (upto (drop (j + 1) W) (deeper w d)))
unfolding upto
upto_next W j d w h e = ap (λ (l : List Word). upto l d) (drop-cons W j Bad h ∙ ap₂ (λ (x : Word) (k : ℕ). x ∷ drop k W) (sym e) (sym (add-one j)))

pub upto_hit : (W : List Word) (j d : ℕ) (w : Word) (b : Bool) → j < length W → w ≡ get_or W j Bad → b ≡ closes w d → b ≡ true → upto (drop j W) d ≡ 0
upto_hit W j d w b h e f z = upto_next W j d w h e ∙ ap (λ (x : Bool). cond x 0 (suc (upto (drop (j + 1) W) (deeper w d)))) (sym f ∙ z)

pub upto_on : (W : List Word) (j d r : ℕ) (w : Word) (b : Bool) → j < length W → w ≡ get_or W j Bad → b ≡ closes w d → b ≡ false → r ≡ deeper w d → upto (drop j W) d ≡ suc (upto (drop (j + 1) W) r)
upto_on W j d r w b h e f z g = upto_next W j d w h e ∙ ap (λ (x : Bool). cond x 0 (suc (upto (drop (j + 1) W) (deeper w d)))) (sym f ∙ z) ∙ ap (λ (k : ℕ). suc (upto (drop (j + 1) W) k)) (sym g)

pub upto_end : (W : List Word) (j d : ℕ) → length W ≤ j → upto (drop j W) d ≡ 0
unfolding upto
upto_end W j d h = rw (drop_of_length-le W h)

pub upto_le : (l : List Word) (d : ℕ) → upto l d ≤ length l
unfolding upto
upto_le [] d = omega arith
upto_le (w ∷ l) d = go (closes w d) (upto_le l (deeper w d))
  where
    go : (b : Bool) → upto l (deeper w d) ≤ length l → cond b 0 (suc (upto l (deeper w d))) ≤ suc (length l)
    go true h = omega arith
    go false h = omega (arith, h)

pub close_le : (W : List Word) (i : ℕ) → close W i ≤ length W
unfolding close
close_le W i = omega (arith, upto_le (drop (i + 1) W) 0, length-drop (i + 1) W)

pub deeper_le : (w : Word) (d : ℕ) → deeper w d ≤ d + 1
deeper_le End d = omega arith
deeper_le (Free v) d = omega arith
deeper_le (Level v) d = omega arith
deeper_le (Num v) d = omega arith
deeper_le (Place v) d = omega arith
deeper_le (Inner v) d = omega arith
deeper_le Bad d = omega arith

pub higher_le : (w : Word) (d : ℕ) → higher w d ≤ d + 1
higher_le End d = omega arith
higher_le (Free v) d = omega arith
higher_le (Level v) d = omega arith
higher_le (Num v) d = omega arith
higher_le (Place v) d = omega arith
higher_le (Inner v) d = omega arith
higher_le Bad d = omega arith

up_next : (W : List Word) (i d : ℕ) (w : Word) → 0 < i → w ≡ get_or W (i - 1) Bad → up i W d ≡ cond (opens w d) (i - 1) (up (i - 1) W (higher w d))
unfolding up
up_next W zero d w h e = absurd (not-suc-le-zero h)
up_next W (suc i) d w h e =
    let s : suc i - 1 ≡ i = sub-one (suc i) in
    let f : get_or W i Bad ≡ w = sym (e ∙ ap (λ (k : ℕ). get_or W k Bad) s) in
    ap (λ (x : Word). cond (opens x d) i (up i W (higher x d))) f ∙ ap (λ (k : ℕ). cond (opens w d) k (up k W (higher w d))) (sym s)

pub up_on : (W : List Word) (i d : ℕ) (w : Word) (b : Bool) → 0 < i → w ≡ get_or W (i - 1) Bad → b ≡ opens w d → b ≡ false → up i W d ≡ up (i - 1) W (higher w d)
up_on W i d w b h e f z = up_next W i d w h e ∙ ap (λ (x : Bool). cond x (i - 1) (up (i - 1) W (higher w d))) (sym f ∙ z)

pub up_hit : (W : List Word) (i d : ℕ) (w : Word) (b : Bool) → 0 < i → w ≡ get_or W (i - 1) Bad → b ≡ opens w d → b ≡ true → up i W d ≡ i - 1
up_hit W i d w b h e f z = up_next W i d w h e ∙ ap (λ (x : Bool). cond x (i - 1) (up (i - 1) W (higher w d))) (sym f ∙ z)

pub up_zero : (W : List Word) (d : ℕ) → up 0 W d ≡ 0
unfolding up
up_zero W d = refl

pub around_is : (W : List Word) (i : ℕ) → up i W 0 ≡ around W i
unfolding around
around_is W i = refl

pub up_le : (i : ℕ) (W : List Word) (d : ℕ) → up i W d ≤ i
unfolding up
up_le zero W d = omega arith
up_le (suc i) W d = go (opens (get_or W i Bad) d) (up_le i W (higher (get_or W i Bad) d))
  where
    go : (b : Bool) → up i W (higher (get_or W i Bad) d) ≤ i → cond b i (up i W (higher (get_or W i Bad) d)) ≤ suc i
    go true h = omega arith
    go false h = omega (arith, h)

-- no word closes or opens it where others are in the way
pub closes_no : (w : Word) (d : ℕ) → (d ≡ 0 → ⊥) → false ≡ closes w d
closes_no End zero h = absurd (h refl)
closes_no End (suc d) h = refl
closes_no (Free v) d h = refl
closes_no (Level v) d h = refl
closes_no (Num v) d h = refl
closes_no (Place k) d h = refl
closes_no (Inner s) d h = refl
closes_no Bad d h = refl

pub opens_no : (w : Word) (d : ℕ) → (d ≡ 0 → ⊥) → false ≡ opens w d
opens_no End d h = refl
opens_no (Free v) d h = refl
opens_no (Level v) d h = refl
opens_no (Num v) d h = refl
opens_no (Place k) zero h = absurd (h refl)
opens_no (Place k) (suc d) h = refl
opens_no (Inner s) zero h = absurd (h refl)
opens_no (Inner s) (suc d) h = refl
opens_no Bad d h = refl
