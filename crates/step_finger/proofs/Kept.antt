-- Rules whose words begin with all that stood before their place, or before the bracket around it. Assumes nothing.
use mathlib.Core.Path.{◌≡◌, refl, sym, subst, ap, ◌∙◌}
use mathlib.Core.Bool.{Bool, true, false, cond}
use mathlib.Core.List.{List, [], ◌∷◌, ◌++◌}
use Prim.Native.Nat.{ℕ, zero, suc, ◌+◌, ◌≤◌, ◌<◌}
use native.Mathlib.Decide.{dec_lt}
use native.Mathlib.Decide.{ℕ_discrete}
use native.Mathlib.Omega.{arith}
use lib.Dec.{eqb}
use lib.ListN.{length, take}
use lib.Seq.{take-take}
use borrow.Author.Tests.{ne_eqb}
use Rattle.mem_words.specs.declared.Word.{Word}
use Rattle.rule_words.specs.Scans.{close, around}
use Rattle.rule_words.proofs.Loops.{close_inside, close_past, up_le}
use Rattle.rule_effects.specs.Effects.{effect_1, effect_2, effect_3, effect_4, effect_5, effect_6, effect_7, effect_8, effect_9, effect_10, effect_11, effect_12, effect_13, effect_14, told, called, composed, revealed, promoted, committed, parted, distributed, flattened}
use Rattle.rule_rewrite.specs.Rewriting.{effect_words}
use Rattle.step_finger.specs.Following.{KeepsFront, KeepsOuter}

front : (i k : ℕ) (W Z : List Word) → i ≤ k → i ≤ length W → take i (take k W ++ Z) ≡ take i W
front zero k W Z h g = refl
front (suc i) zero W Z h g = absurd (omega arith)
front (suc i) (suc k) [] Z h g = absurd (omega arith)
front (suc i) (suc k) (w ∷ W) Z h g = ap (λ (l : List Word). w ∷ l) (front i k W Z (omega arith) (omega arith))

pub not_kept : {A : Type 0} → false ≡ true → A
not_kept e = absurd (let z : ◌≡◌ {A = ℕ} 0 1 = cc in omega arith)

-- a bracket is open around a position before it
pub around_le : (W : List Word) (i : ℕ) → around W i ≤ i
unfolding around
around_le W i = up_le i W 0

-- and closes behind it
close_from : (W : List Word) (a j : ℕ) → a ≤ j → a ≤ length W → a ≤ close W j
close_from W a j h g = go (dec_lt j (length W))
  where
    go : Dec (j < length W) → a ≤ close W j
    go (yes p) = omega (arith, close_inside W j p)
    go (no p) = omega (arith, close_past W j (omega arith))

module _ (r : ℕ) where
  fronts : (k : ℕ) → r ≡ k → KeepsFront k → KeepsFront r
  fronts k e h = subst KeepsFront (sym e) h

  pub keeps_2 : r ≡ 2 → KeepsFront r
  unfolding effect_words effect_2 called
  keeps_2 e = fronts 2 e (record { same = λ W D i next h. front i (i + 1) W _ (omega arith) h })

  pub keeps_3 : r ≡ 3 → KeepsFront r
  unfolding effect_words effect_3 composed
  keeps_3 e = fronts 3 e (record { same = λ W D i next h. front i (i + 1) W _ (omega arith) h })

  pub keeps_5 : r ≡ 5 → KeepsFront r
  unfolding effect_words effect_5
  keeps_5 e = fronts 5 e (record { same = λ W D i next h. front i i W _ (omega arith) h })

  pub keeps_7 : r ≡ 7 → KeepsFront r
  unfolding effect_words effect_7
  keeps_7 e = fronts 7 e (record { same = λ W D i next h. front i (close W i + 1) W _ (omega (arith, close_from W i i (omega arith) h)) h })

  pub keeps_9 : r ≡ 9 → KeepsFront r
  unfolding effect_words effect_9
  keeps_9 e = fronts 9 e (record { same = λ W D i next h. front i i W _ (omega arith) h })

  pub keeps_11 : r ≡ 11 → KeepsFront r
  unfolding effect_words effect_11
  keeps_11 e = fronts 11 e (record { same = λ W D i next h. front i i W _ (omega arith) h })

  pub keeps_13 : r ≡ 13 → KeepsFront r
  unfolding effect_words effect_13 distributed
  keeps_13 e = fronts 13 e (record { same = λ W D i next h. front i (i + 1) W _ (omega arith) h })

  pub keeps_14 : r ≡ 14 → KeepsFront r
  unfolding effect_words effect_14 flattened
  keeps_14 e = fronts 14 e (record { same = λ W D i next h. front i i W _ (omega arith) h })

  outers : (k : ℕ) → r ≡ k → KeepsOuter k → KeepsOuter r
  outers k e h = subst KeepsOuter (sym e) h

  outer_1 : r ≡ 1 → KeepsOuter r
  unfolding effect_words effect_1 told
  outer_1 e = outers 1 e (record {
    same = λ W D i next h.
        let a = around W i in
        let l : a ≤ length W = omega (arith, around_le W i, h) in
        front a (close W (close W (a + 1) + 1)) W _ (close_from W a (close W (a + 1) + 1) (omega (arith, close_from W a (a + 1) (omega arith) l)) l) l;
  })

  outer_4 : r ≡ 4 → KeepsOuter r
  unfolding effect_words effect_4 revealed
  outer_4 e = outers 4 e (record {
    same = λ W D i next h.
        let a = around W i in
        let l : a ≤ length W = omega (arith, around_le W i, h) in
        front a (close W (a + 1)) W _ (close_from W a (a + 1) (omega arith) l) l;
  })

  outer_6 : r ≡ 6 → KeepsOuter r
  unfolding effect_words effect_6 promoted
  outer_6 e = outers 6 e (record {
    same = λ W D i next h.
        let a = around W i in
        let l : a ≤ length W = omega (arith, around_le W i, h) in
        front a (close W (a + 1)) W _ (close_from W a (a + 1) (omega arith) l) l;
  })

  outer_8 : r ≡ 8 → KeepsOuter r
  unfolding effect_words effect_8 committed
  outer_8 e = outers 8 e (record { same = λ W D i next h. front (around W i) (around W i + 1) W _ (omega arith) (omega (arith, around_le W i, h)) })

  outer_10 : r ≡ 10 → KeepsOuter r
  unfolding effect_words effect_10 effect_9
  outer_10 e = outers 10 e (record { same = λ W D i next h. front (around W i) (around W i) W _ (omega arith) (omega (arith, around_le W i, h)) })

  outer_12 : r ≡ 12 → KeepsOuter r
  unfolding effect_words effect_12 parted
  outer_12 e = outers 12 e (record { same = λ W D i next h. front (around W i) (around W i) W _ (omega arith) (omega (arith, around_le W i, h)) })

  -- what keeps the words before the place keeps those before the bracket around it
  outer_front : KeepsFront r → KeepsOuter r
  outer_front k = record {
    same = λ W D i next h.
        sym (take-take (around W i) i (effect_words W D r i next) (around_le W i)) ∙ ap (take (around W i)) (k.same W D i next h) ∙ take-take (around W i) i W (around_le W i);
  }

  either : (k : ℕ) → (r ≡ k → KeepsOuter r) → ((r ≡ k → ⊥) → KeepsOuter r) → KeepsOuter r
  either k y n = go (ℕ_discrete r k)
    where
      go : Dec (r ≡ k) → KeepsOuter r
      go (yes e) = y e
      go (no e) = n e

  skip : (b : Bool) (x y z : List Word) → b ≡ false → y ≡ z → cond b x y ≡ z
  skip b x y z e q = ap (λ (c : Bool). cond c x y) e ∙ q

  -- every number that is none of these is taken for 14
  outer_other : (r ≡ 1 → ⊥) → (r ≡ 2 → ⊥) → (r ≡ 3 → ⊥) → (r ≡ 4 → ⊥) → (r ≡ 5 → ⊥) → (r ≡ 6 → ⊥) → (r ≡ 7 → ⊥) → (r ≡ 8 → ⊥) → (r ≡ 9 → ⊥) → (r ≡ 10 → ⊥) → (r ≡ 11 → ⊥) → (r ≡ 12 → ⊥) → (r ≡ 13 → ⊥) → KeepsOuter r
  unfolding effect_words effect_14 flattened
  outer_other a b c d f g h i j k l m n = record {
    same = λ W D x next y.
        ap (take (around W x))
        (skip _ _ _ _ (ne_eqb r 1 a) (skip _ _ _ _ (ne_eqb r 2 b) (skip _ _ _ _ (ne_eqb r 3 c) (skip _ _ _ _ (ne_eqb r 4 d) (skip _ _ _ _ (ne_eqb r 5 f) (skip _ _ _ _ (ne_eqb r 6 g) (skip _ _ _ _ (ne_eqb r 7 h) (skip _ _ _ _ (ne_eqb r 8 i) (skip _ _ _ _ (ne_eqb r 9 j) (skip _ _ _ _ (ne_eqb r 10 k) (skip _ _ _ _ (ne_eqb r 11 l) (skip _ _ _ _ (ne_eqb r 12 m) (skip _ _ _ _ (ne_eqb r 13 n) refl)))))))))))))
        ∙ front (around W x) x W _ (around_le W x) (omega (arith, around_le W x, y));
  }

  -- Every rule keeps the words before the bracket around its place.
  pub keeps_outer : KeepsOuter r
  keeps_outer =
      either 1 outer_1 (λ a. either 2 (λ e. outer_front (keeps_2 e)) (λ b. either 3 (λ e. outer_front (keeps_3 e)) (λ c. either 4 outer_4 (λ d. either 5 (λ e. outer_front (keeps_5 e)) (λ f. either 6 outer_6 (λ g. either 7 (λ e. outer_front (keeps_7 e)) (λ h. either 8 outer_8
      (λ i. either 9 (λ e. outer_front (keeps_9 e)) (λ j. either 10 outer_10 (λ k. either 11 (λ e. outer_front (keeps_11 e)) (λ l. either 12 outer_12 (λ m. either 13 (λ e. outer_front (keeps_13 e)) (λ n. outer_other a b c d f g h i j k l m n)))))))))))))
