-- Lengths that are counted no further than a bound: sums are counted from their parts. Assumes nothing.
use mathlib.Core.Path.{◌≡◌, ap, sym, ◌∙◌}
use mathlib.Core.Logic.{◌↔◌, if_pos, if_neg}
use Prim.Native.Nat.{ℕ, suc, ◌+◌, ◌≤◌, ◌<◌}
use native.Mathlib.Decide.{dec_lt}
use native.Mathlib.Omega.{arith}
use Rattle.answer_text.specs.Lengths.{cap}

pub cap_more : (m n : ℕ) → m < n → cap m n ≡ suc m
unfolding cap
cap_more m n l = if_pos (dec_lt m n) l _ _

pub cap_same : (m n : ℕ) → n ≤ m → cap m n ≡ n
unfolding cap
cap_same m n l = if_neg (dec_lt m n) (λ k. omega arith) _ _

pub cap_most : (m n : ℕ) → cap m n ≤ suc m
cap_most m n = go (dec_lt m n)
  where
    go : Dec (m < n) → cap m n ≤ suc m
    go (yes l) = omega (arith, cap_more m n l)
    go (no k) = omega (arith, cap_same m n (omega arith))

-- a length is too long exactly if it is counted so
pub cap_over : (m n : ℕ) → (m < cap m n) ↔ (m < n)
cap_over m n = go (dec_lt m n)
  where
    go : Dec (m < n) → (m < cap m n) ↔ (m < n)
    go (yes l) = (λ k. l, λ k. omega (arith, cap_more m n l))
    go (no k) = (λ l. absurd (omega (arith, cap_same m n (omega arith))), λ l. absurd (k l))

-- and else it is counted in full
pub cap_full : (m n : ℕ) → cap m n ≤ m → cap m n ≡ n
cap_full m n h = go (dec_lt m n)
  where
    go : Dec (m < n) → cap m n ≡ n
    go (yes l) = absurd (omega (arith, cap_more m n l))
    go (no k) = cap_same m n (omega arith)

-- a part that is counted so may stand for the part
pub cap_left : (m a b : ℕ) → cap m (cap m a + b) ≡ cap m (a + b)
cap_left m a b = go (dec_lt m a)
  where
    go : Dec (m < a) → cap m (cap m a + b) ≡ cap m (a + b)
    go (yes l) = cap_more m (cap m a + b) (omega (arith, cap_more m a l)) ∙ sym (cap_more m (a + b) (omega arith))
    go (no k) = ap (λ (z : ℕ). cap m (z + b)) (cap_same m a (omega arith))

pub cap_right : (m a b : ℕ) → cap m (a + cap m b) ≡ cap m (a + b)
cap_right m a b = let e : a + cap m b ≡ cap m b + a = omega arith in let d : b + a ≡ a + b = omega arith in ap (cap m) e ∙ cap_left m b a ∙ ap (cap m) d

pub cap_sum : (m a b : ℕ) → cap m (cap m a + cap m b) ≡ cap m (a + b)
cap_sum m a b = cap_left m a (cap m b) ∙ cap_right m a b

pub cap_twice : (m a : ℕ) → cap m (cap m a) ≡ cap m a
cap_twice m a = let e : cap m a ≡ cap m a + 0 = omega arith in let d : a + 0 ≡ a = omega arith in ap (cap m) e ∙ cap_left m a 0 ∙ ap (cap m) d
