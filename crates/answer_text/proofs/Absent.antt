-- How many of the numbers below a are not in a list: fewer with each that is added. Assumes nothing.
use mathlib.Core.Path.{◌≡◌, sym, subst}
use mathlib.Core.Logic.{inl, inr, ite, if_pos, if_neg}
use mathlib.Core.List.{List, ◌∷◌}
use Prim.Native.Nat.{ℕ, zero, suc, ◌+◌, ◌≤◌, ◌<◌}
use native.Mathlib.Omega.{arith}
use native.Mathlib.Decide.{ℕ_discrete}
use Rattle.constraint.specs.Constraint.{In}
use Rattle.constraint.proofs.Trees.{dec_in}

lack : ℕ → List ℕ → ℕ
lack k L = ite (dec_in k L) 0 1

pub absent : ℕ → List ℕ → ℕ
absent zero L = 0
absent (suc a) L = lack a L + absent a L

lack_in : (k : ℕ) (L : List ℕ) → In k L → lack k L ≡ 0
unfolding lack
lack_in k L i = if_pos (dec_in k L) i _ _

lack_out : (k : ℕ) (L : List ℕ) → (In k L → ⊥) → lack k L ≡ 1
unfolding lack
lack_out k L i = if_neg (dec_in k L) i _ _

lack_more : (j k : ℕ) (L : List ℕ) → lack j (k ∷ L) ≤ lack j L
lack_more j k L = go (dec_in j L) (dec_in j (k ∷ L))
  where
    go : Dec (In j L) → Dec (In j (k ∷ L)) → lack j (k ∷ L) ≤ lack j L
    go (yes i) d = omega (arith, lack_in j (k ∷ L) (inr i))
    go (no m) (yes i) = omega (arith, lack_in j (k ∷ L) i)
    go (no m) (no i) = omega (arith, lack_out j (k ∷ L) i, lack_out j L m)

absent_more : (a k : ℕ) (L : List ℕ) → absent a (k ∷ L) ≤ absent a L
unfolding absent
absent_more zero k L = omega arith
absent_more (suc a) k L = omega (arith, lack_more a k L, absent_more a k L)

pub absent_less : (a k : ℕ) (L : List ℕ) → k < a → (In k L → ⊥) → absent a (k ∷ L) < absent a L
unfolding absent
absent_less zero k L l m = absurd (omega arith)
absent_less (suc a) k L l m = go (ℕ_discrete k a) (λ h. absent_less a k L h m)
  where
    go : Dec (k ≡ a) → (k < a → absent a (k ∷ L) < absent a L) → lack a (k ∷ L) + absent a (k ∷ L) < lack a L + absent a L
    go (yes e) ih = omega (arith, lack_in a (k ∷ L) (inl (sym e)), lack_out a L (subst (λ z. In z L → ⊥) e m), absent_more a k L)
    go (no d) ih = omega (arith, lack_more a k L, ih (omega arith))

pub absent_most : (a : ℕ) (L : List ℕ) → absent a L ≤ a
unfolding absent
absent_most zero L = omega arith
absent_most (suc a) L = go (dec_in a L) (absent_most a L)
  where
    go : Dec (In a L) → absent a L ≤ a → lack a L + absent a L ≤ suc a
    go (yes i) ih = omega (arith, lack_in a L i)
    go (no m) ih = omega (arith, lack_out a L m)
