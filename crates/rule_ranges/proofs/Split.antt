-- The ranges around a position inside a goal are those from the goal down to it, and then those around the goal.
use mathlib.Core.Path.{◌≡◌, refl, ap, sym, ◌∙◌}
use mathlib.Core.Bool.{Bool, true, false, cond}
use mathlib.Core.List.{List, [], ◌∷◌, ◌++◌}
use Prim.Native.Nat.{ℕ, zero, suc, ◌+◌, ◌≤◌, ◌<◌}
use native.Mathlib.Omega.{arith}
use lib.Dec.{ltb}
use lib.ListN.{length, get_or, drop, length-append, length-drop}
use lib.Seq.{get_or-drop}
use borrow.Author.Tests.{ltb-true, ltb-false}
use Rattle.akl.specs.Base.{Name}
use Rattle.akl.specs.Configuration as akl
use Rattle.akl.specs.Configuration.{Node, Ctx}
use Rattle.mem_words.specs.declared.Word.{Word}
use Rattle.mem_words.specs.declared.Word.TheVariants.{End, Free, Level, Num, Place, Inner, Bad}
use Rattle.mem_sorts.specs.declared.Kind.TheVariants.{And}
use Rattle.store_words.specs.Boxes.{node_words}
use Rattle.store_words.specs.Contexts.{before, after, kind_of}
use Rattle.store_words.proofs.Places.{node_opens}
use Rattle.rule_words.specs.Scans.{closes, deeper, upto, close, around}
use Rattle.rule_words.specs.Pieces.{cat}
use Rattle.rule_words.proofs.Loops.{close_inside}
use Rattle.rule_words.proofs.Balance.{seg_ends, a_place}
use Rattle.rule_effects.specs.Effects.{behind}
use Rattle.rule_effects.specs.Conditions.{kind_at}
use Rattle.rule_effects.specs.Standing.{Stands}
use Rattle.rule_effects.proofs.Shapes.{node_tree}
use Rattle.rule_effects.proofs.Frames.{stands_seg, node_seg, seg_word}
use Rattle.rule_ranges.specs.Ranges.{Range, store_range, and_its, ranges, ranges_from}
use Rattle.rule_ranges.proofs.Inside.{around_before, around_inside}
use Rattle.rule_ranges.proofs.Environment.{ranges_step, ranges_end}

-- ---------------------------------------------------------------------------------------------
-- More calls change nothing.

pub ranges_more : (f g : ℕ) (W : List Word) (s i : ℕ) → i ≤ f → i ≤ g → ranges f W s i ≡ ranges g W s i
unfolding ranges
ranges_more zero g W s i h k = sym (ranges_end g W s i (omega (arith, h)))
ranges_more (suc f) zero W s i h k = ranges_end (suc f) W s i (omega (arith, k))
ranges_more (suc f) (suc g) W s zero h k = ranges_end (suc f) W s zero (omega arith) ∙ sym (ranges_end (suc g) W s zero (omega arith))
ranges_more (suc f) (suc g) W s (suc i) h k =
    let b = around_before W i in
    ap (λ (rs : List Range). cond (ltb s (suc i)) (cond (ltb (around W (suc i)) s) [] (and_its W (around W (suc i)) rs)) []) (ranges_more f g W s (around W (suc i)) (omega (arith, b, h)) (omega (arith, b, k)))

-- ---------------------------------------------------------------------------------------------

adds_append : (W : List Word) (o : ℕ) (a b : List Range) → and_its W o (a ++ b) ≡ and_its W o a ++ b
adds_append W o a b = go (kind_at W o And)
  where
    go : (c : Bool) → cond c (store_range W o ∷ (a ++ b)) (a ++ b) ≡ cond c (store_range W o ∷ a) a ++ b
    go true = refl
    go false = refl

-- g is where a bracket begins that is around all positions up to c
split_up_to : (f : ℕ) (W : List Word) (g k c : ℕ) → ((i : ℕ) → g < i → i ≤ c → g ≤ around W i) → g < k → k ≤ c → k ≤ f → ranges f W 0 k ≡ ranges f W g k ++ ranges g W 0 g
split_up_to zero W g k c t l m h = absurd (omega (arith, l, h))
split_up_to (suc f) W g zero c t l m h = absurd (omega (arith, l))
split_up_to (suc f) W g (suc k) c t l m h = go (split_up_to f W g (around W (suc k)) c t) (ltb g o) refl
  where
    o : ℕ
    o = around W (suc k)

    low : g ≤ o
    low = t (suc k) l m

    high : o ≤ k
    high = around_before W k

    whole : ranges (suc f) W 0 (suc k) ≡ and_its W o (ranges f W 0 o)
    whole = ranges_step f W 0 (suc k) o refl (omega arith) (omega arith)

    inner : ranges (suc f) W g (suc k) ≡ and_its W o (ranges f W g o)
    inner = ranges_step f W g (suc k) o refl l low

    -- the rest of the way is split
    join : ranges f W 0 o ≡ ranges f W g o ++ ranges g W 0 g → ranges (suc f) W 0 (suc k) ≡ ranges (suc f) W g (suc k) ++ ranges g W 0 g
    join e = whole ∙ ap (and_its W o) e ∙ adds_append W o (ranges f W g o) (ranges g W 0 g) ∙ ap (λ (rs : List Range). rs ++ ranges g W 0 g) (sym inner)

    go : (g < o → o ≤ c → o ≤ f → ranges f W 0 o ≡ ranges f W g o ++ ranges g W 0 g) → (b : Bool) → ltb g o ≡ b → ranges (suc f) W 0 (suc k) ≡ ranges (suc f) W g (suc k) ++ ranges g W 0 g
    go r true e = join (r (ltb-true g o e) (omega (arith, high, m)) (omega (arith, high, h)))
    go r false e =
        let q : o ≡ g = let z = ltb-false g o e in omega (arith, z, low) in
        join (ap (ranges f W 0) q ∙ ranges_more f g W 0 g (omega (arith, l, h)) (omega arith) ∙ ap (λ (rs : List Range). rs ++ ranges g W 0 g) (sym (ranges_end f W g o (omega (arith, q)))))

-- ---------------------------------------------------------------------------------------------
-- A bracket closes with an End, so that no node begins there.

closes_end : (w : Word) (d : ℕ) → closes w d ≡ true → closes w 0 ≡ true
closes_end End d e = refl
closes_end (Free v) d e = e
closes_end (Level v) d e = e
closes_end (Num v) d e = e
closes_end (Place k) d e = e
closes_end (Inner s) d e = e
closes_end Bad d e = e

upto_end : (l : List Word) (d : ℕ) → upto l d < length l → closes (get_or l (upto l d) Bad) 0 ≡ true
unfolding upto
upto_end [] d h = absurd (omega (arith, h))
upto_end (w ∷ l) d h = go (upto_end l (deeper w d)) (closes w d) refl h
  where
    go : (upto l (deeper w d) < length l → closes (get_or l (upto l (deeper w d)) Bad) 0 ≡ true) → (b : Bool) → closes w d ≡ b → cond b 0 (suc (upto l (deeper w d))) < suc (length l)
        → closes (get_or (w ∷ l) (cond b 0 (suc (upto l (deeper w d)))) Bad) 0 ≡ true
    go r true e q = closes_end w d e
    go r false e q = r (omega (arith, q))

close_end : (W : List Word) (g : ℕ) → close W g < length W → g < length W → closes (get_or W (close W g) Bad) 0 ≡ true
close_end W g h l =
    let c = close_inside W g l in
    let n = length-drop (g + 1) W in
    ap (λ (k : ℕ). closes (get_or W k Bad) 0) c ∙ ap (λ (w : Word). closes w 0) (sym (get_or-drop (g + 1) W (upto (drop (g + 1) W) 0) Bad)) ∙ upto_end (drop (g + 1) W) 0 (omega (arith, c, n, h, l))

-- ---------------------------------------------------------------------------------------------

module _ (num : Name → ℕ) {Z W : List Word} {g j : ℕ} where
  -- a node that begins before the goal ends begins before its End
  pub before_end : {k k' : akl.Kind} {χ : Ctx k} {χ' : Ctx k'} {n : Node k} {m : Node k'} → Stands num χ n Z W g → Stands num χ' m Z W j → j < behind W g → j + 1 ≤ close W g
  before_end {k} {k'} {χ} {χ'} {n} {m} s t h = go (ltb j (close W g)) refl
    where
      w : W ≡ cat (before num χ [] ∷ []) (node_words num n (after num χ Z))
      w = stands_seg num s

      begins : g ≡ length (before num χ [])
      begins = s.begins

      ends : behind W g ≡ g + length (node_words num n [])
      ends = seg_ends (node_words num n) (node_tree num n) (before num χ [] ∷ []) (after num χ Z) W g w (omega (arith, begins))

      long : length W ≡ length (before num χ []) + length (node_words num n (after num χ Z))
      long = ap length w ∙ length-append (before num χ []) (node_words num n (after num χ Z))

      more : length (node_words num n (after num χ Z)) ≡ length (node_words num n []) + length (after num χ Z)
      more = ap length (node_seg num n (after num χ Z)) ∙ length-append (node_words num n []) (after num χ Z)

      opened : length (node_words num n []) ≡ suc (length (node_opens num n []).0)
      opened = ap length (node_opens num n []).1

      begun : get_or W j Bad ≡ Place (kind_of m)
      begun = let o = node_opens num m (after num χ' Z) in let b = t.begins in seg_word (before num χ' [] ∷ []) (Place (kind_of m)) o.0 W j (stands_seg num t ∙ ap (cat (before num χ' [] ∷ [])) o.1) (omega (arith, b))

      go : (b : Bool) → ltb j (close W g) ≡ b → j + 1 ≤ close W g
      go true e = let z = ltb-true j (close W g) e in omega (arith, z)
      go false e =
          let z = ltb-false j (close W g) e in
          let q : close W g ≡ j = omega (arith, z, h) in
          let c = close_end W g (omega (arith, ends, long, more, begins)) (omega (arith, long, more, opened, begins)) in
          let x : false ≡ true = sym (ap (λ (v : Word). closes v 0) (ap (λ (i : ℕ). get_or W i Bad) q ∙ begun)) ∙ c in
          let y : ◌≡◌ {A = ℕ} 0 1 = ap (λ (b : Bool). cond b 1 0) x in
          absurd (omega (arith, y))

  pub ranges_split : {k k' : akl.Kind} {χ : Ctx k} {χ' : Ctx k'} {n : Node k} {m : Node k'} → Stands num χ n Z W g → Stands num χ' m Z W j → g ≤ j → j < behind W g
      → ranges_from W 0 (j + 1) ≡ ranges_from W g (j + 1) ++ ranges_from W 0 g
  unfolding ranges_from
  ranges_split {k} {k'} {χ} {χ'} {n} {m} s t h l =
      let o = node_opens num n (after num χ Z) in
      split_up_to (j + 1) W g (j + 1) (close W g)
      (λ i a b. around_inside (before num χ []) o.0 W (Place (kind_of n)) g i (a_place (kind_of n)) (stands_seg num s ∙ ap (λ (l : List Word). before num χ [] ++ l) o.1) s.begins a b)
      (omega (arith, h)) (before_end s t l) (omega arith)
