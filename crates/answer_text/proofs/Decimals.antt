-- A number in decimal from the number without its last digit, and how long it is. Assumes nothing.
use mathlib.Core.Path.{◌≡◌, refl, ap, sym, ◌∙◌, subst}
use mathlib.Core.List.{List, [], ◌∷◌, ◌++◌}
use mathlib.Core.Bool.{Bool, true, false}
use Prim.Native.Nat.{ℕ, zero, suc, ◌+◌, ◌/◌, ◌%◌, ◌≤◌, ◌<◌}
use native.Mathlib.Decide.{dec_lt}
use native.Mathlib.Omega.{arith}
use lib.ListN.{length, length-append}
use lib.Dec.{T, eqb, eqb→eq, eqb_refl}
use Rattle.akl.specs.Base.{decimal, decimal_from}

-- one digit more
one_more : (fuel n : ℕ) (tail : List ℕ) → Bool → List ℕ
one_more fuel n tail b = elim b as (λ z. List ℕ) [ true ↦ (48 + n % 10) ∷ tail | false ↦ decimal_from fuel (n / 10) ((48 + n % 10) ∷ tail) ]

last_digit : (fuel n : ℕ) (tail : List ℕ) → n < 10 → decimal_from (suc fuel) n tail ≡ (48 + n % 10) ∷ tail
unfolding decimal_from one_more
last_digit fuel n tail l = go (eqb (n / 10) 0) (subst (λ (z : ℕ). T (eqb z 0)) (sym small) (eqb_refl 0))
  where
    small : n / 10 ≡ 0
    small = omega arith

    go : (b : Bool) → T b → one_more fuel n tail b ≡ (48 + n % 10) ∷ tail
    go false t = elim t [ ]
    go true t = refl

next_digit : (fuel n : ℕ) (tail : List ℕ) → 10 ≤ n → decimal_from (suc fuel) n tail ≡ decimal_from fuel (n / 10) ((48 + n % 10) ∷ tail)
unfolding decimal_from one_more
next_digit fuel n tail l = go (eqb (n / 10) 0) (λ t. large (eqb→eq (n / 10) 0 t))
  where
    large : n / 10 ≡ 0 → ⊥
    large e = omega arith

    go : (b : Bool) → (T b → ⊥) → one_more fuel n tail b ≡ decimal_from fuel (n / 10) ((48 + n % 10) ∷ tail)
    go true t = absurd (t tt)
    go false t = refl

-- what stands behind, and more fuel, change nothing
from_enough : (a b n : ℕ) (l tail : List ℕ) → n < a → n < b → decimal_from a n (l ++ tail) ≡ decimal_from b n l ++ tail
from_enough zero b n l tail p q = absurd (omega arith)
from_enough (suc a) zero n l tail p q = absurd (omega arith)
from_enough (suc a) (suc b) n l tail p q = go (dec_lt n 10) (λ k. from_enough a b (n / 10) k tail)
  where
    go : Dec (n < 10) → ((k : List ℕ) → n / 10 < a → n / 10 < b → decimal_from a (n / 10) (k ++ tail) ≡ decimal_from b (n / 10) k ++ tail) → decimal_from (suc a) n (l ++ tail) ≡ decimal_from (suc b) n l ++ tail
    go (yes s) ih = last_digit a n (l ++ tail) s ∙ ap (λ (z : List ℕ). z ++ tail) (sym (last_digit b n l s))
    go (no s) ih = next_digit a n (l ++ tail) (omega arith) ∙ ih ((48 + n % 10) ∷ l) (omega arith) (omega arith) ∙ ap (λ (z : List ℕ). z ++ tail) (sym (next_digit b n l (omega arith)))

pub decimal_small : (n : ℕ) → n < 10 → decimal n ≡ (48 + n) ∷ []
unfolding decimal
decimal_small n l = let e : n % 10 ≡ n = omega arith in last_digit n n [] l ∙ ap (λ (z : ℕ). (48 + z) ∷ []) e

pub decimal_more : (n : ℕ) → 10 ≤ n → decimal n ≡ decimal (n / 10) ++ ((48 + n % 10) ∷ [])
unfolding decimal
decimal_more n l = next_digit n n [] l ∙ from_enough n (suc (n / 10)) (n / 10) [] ((48 + n % 10) ∷ []) (omega arith) (omega arith)

pub decimal_length_small : (n : ℕ) → n < 10 → length (decimal n) ≡ 1
decimal_length_small n l = ap length (decimal_small n l)

pub decimal_length_more : (n : ℕ) → 10 ≤ n → length (decimal n) ≡ length (decimal (n / 10)) + 1
decimal_length_more n l = ap length (decimal_more n l) ∙ length-append (decimal (n / 10)) ((48 + n % 10) ∷ [])

-- one digit or more
pub decimal_length_some : (n : ℕ) → 1 ≤ length (decimal n)
decimal_length_some n = go (dec_lt n 10)
  where
    go : Dec (n < 10) → 1 ≤ length (decimal n)
    go (yes l) = omega (arith, decimal_length_small n l)
    go (no l) = omega (arith, decimal_length_more n (omega arith))

longer : (n d : ℕ) → (10 ≤ n → length (decimal (n / 10)) ≤ d) → length (decimal n) ≤ suc d
longer n d h = go (dec_lt n 10)
  where
    go : Dec (n < 10) → length (decimal n) ≤ suc d
    go (yes l) = omega (arith, decimal_length_small n l)
    go (no l) = omega (arith, decimal_length_more n (omega arith), h (omega arith))

two_digits : (n : ℕ) → n < 100 → length (decimal n) ≤ 2
two_digits n l = longer n 1 (λ k. omega (arith, decimal_length_small (n / 10) (omega arith)))

three_digits : (n : ℕ) → n < 1000 → length (decimal n) ≤ 3
three_digits n l = longer n 2 (λ k. two_digits (n / 10) (omega arith))

four_digits : (n : ℕ) → n < 10000 → length (decimal n) ≤ 4
four_digits n l = longer n 3 (λ k. three_digits (n / 10) (omega arith))

-- five at most: there are no more than 65,536 variables
pub decimal_length_most : (n : ℕ) → n < 100000 → length (decimal n) ≤ 5
decimal_length_most n l = longer n 4 (λ k. four_digits (n / 10) (omega arith))
