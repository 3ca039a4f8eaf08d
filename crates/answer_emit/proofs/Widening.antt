-- How many digits the decimal notation of a number has, counted by cutting the last one off. Assumes nothing.
use mathlib.Core.Path.{◌≡◌, refl, ap, sym, ◌∙◌}
use mathlib.Core.List.{List, [], ◌∷◌, ◌++◌}
use mathlib.Core.Bool.{Bool, true, false}
use Prim.Native.Nat.{ℕ, zero, suc, ◌+◌, ◌/◌, ◌%◌, ◌<◌, ◌≤◌}
use native.Mathlib.Decide.{dec_lt}
use native.Mathlib.Omega.{arith}
use lib.Dec.{eqb}
use lib.Seq.{append_snoc}
use borrow.Author.Tests.{eq-eqb, ne_eqb}
use Rattle.akl.specs.Base.{decimal, decimal_from}
use Rattle.answer_emit.specs.Digits.{digits, Wide}

-- the definition's turn, by the value of its test
turn : ℕ → ℕ → List ℕ → Bool → List ℕ
turn f n t b = elim b [ true ↦ (48 + n % 10) ∷ t | false ↦ decimal_from f (n / 10) ((48 + n % 10) ∷ t) ]

from_turn : (f n : ℕ) (t : List ℕ) → decimal_from (suc f) n t ≡ turn f n t (eqb (n / 10) 0)
unfolding decimal_from turn
from_turn f n t = refl

from_last : (f n : ℕ) (t : List ℕ) → n < 10 → decimal_from (suc f) n t ≡ (48 + n % 10) ∷ t
unfolding turn
from_last f n t h = from_turn f n t ∙ ap (turn f n t) (eq-eqb (n / 10) 0 (omega arith))

from_more : (f n : ℕ) (t : List ℕ) → 10 ≤ n → decimal_from (suc f) n t ≡ decimal_from f (n / 10) ((48 + n % 10) ∷ t)
unfolding turn
from_more f n t h = from_turn f n t ∙ ap (turn f n t) (ne_eqb (n / 10) 0 (λ z. omega (arith, z)))

from_tail : (f n : ℕ) (t : List ℕ) → decimal_from f n t ≡ decimal_from f n [] ++ t
unfolding decimal_from
from_tail zero n t = refl
from_tail (suc f) n t = go (dec_lt n 10) (from_tail f (n / 10) ((48 + n % 10) ∷ t)) (from_tail f (n / 10) ((48 + n % 10) ∷ []))
  where
    go : Dec (n < 10) → decimal_from f (n / 10) ((48 + n % 10) ∷ t) ≡ decimal_from f (n / 10) [] ++ ((48 + n % 10) ∷ t) → decimal_from f (n / 10) ((48 + n % 10) ∷ []) ≡ decimal_from f (n / 10) [] ++ ((48 + n % 10) ∷ []) → decimal_from (suc f) n t ≡ decimal_from (suc f) n [] ++ t
    go (yes h) a b = from_last f n t h ∙ ap (λ (l : List ℕ). l ++ t) (sym (from_last f n [] h))
    go (no h) a b =
        from_more f n t (omega arith) ∙ a ∙ sym (append_snoc (decimal_from f (n / 10) []) (48 + n % 10) t)
        ∙ ap (λ (l : List ℕ). l ++ t) (sym (from_more f n [] (omega arith) ∙ b))

-- turns beyond the number change nothing
from_enough : (f g n : ℕ) (t : List ℕ) → n < f → n < g → decimal_from f n t ≡ decimal_from g n t
from_enough zero g n t a b = absurd (omega arith)
from_enough (suc f) zero n t a b = absurd (omega arith)
from_enough (suc f) (suc g) n t a b = go (dec_lt n 10) (λ (h : 10 ≤ n). from_enough f g (n / 10) ((48 + n % 10) ∷ t) (omega arith) (omega arith))
  where
    go : Dec (n < 10) → (10 ≤ n → decimal_from f (n / 10) ((48 + n % 10) ∷ t) ≡ decimal_from g (n / 10) ((48 + n % 10) ∷ t)) → decimal_from (suc f) n t ≡ decimal_from (suc g) n t
    go (yes h) e = from_last f n t h ∙ sym (from_last g n t h)
    go (no h) e = from_more f n t (omega arith) ∙ e (omega arith) ∙ sym (from_more g n t (omega arith))

decimal_small : (n : ℕ) → n < 10 → decimal n ≡ digits 1 n
unfolding decimal digits
decimal_small n h = from_last n n [] h

decimal_more : (n : ℕ) → 10 ≤ n → decimal n ≡ decimal (n / 10) ++ ((48 + n % 10) ∷ [])
unfolding decimal
decimal_more n h =
    from_more n n [] h ∙ from_tail n (n / 10) ((48 + n % 10) ∷ [])
    ∙ ap (λ (l : List ℕ). l ++ ((48 + n % 10) ∷ [])) (from_enough n (suc (n / 10)) (n / 10) [] (omega arith) (omega arith))

-- The loop that counts digits: k is what is left of n when c - 1 of its digits are cut off.
pub record Widening (n k c : ℕ) : Type 0 where
  pub turns : (m : ℕ) → decimal k ≡ digits (suc m) k → decimal n ≡ digits (m + c) n
  pub small : c + k ≤ n + 1

pub widening_all : (n : ℕ) → Widening n n 1
widening_all n = record { turns = λ m e. let z : suc m ≡ m + 1 = omega arith in e ∙ ap (λ (c : ℕ). digits c n) z; small = omega arith }

pub widening_more : {n k c : ℕ} → Widening n k c → 10 ≤ k → Widening n (k / 10) (c + 1)
unfolding digits
widening_more {n} {k} {c} w h =
    record {
      turns = λ m e.
          let z : suc m + c ≡ m + (c + 1) = omega arith in
          w.turns (suc m) (decimal_more k h ∙ ap (λ (l : List ℕ). l ++ ((48 + k % 10) ∷ [])) e) ∙ ap (λ (i : ℕ). digits i n) z;
      small = omega (arith, w.small);
    }

pub widening_end : {n k c : ℕ} → Widening n k c → k < 10 → Wide n c
widening_end {n} {k} {c} w h = let z : 0 + c ≡ c = omega arith in record { is = w.turns 0 (decimal_small k h) ∙ ap (λ (i : ℕ). digits i n) z }
