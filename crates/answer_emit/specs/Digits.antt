-- The last digits of a number, and its decimal notation by them. Assumes nothing.
use Rattle.std.specs.Prelude.{◌≡◌, refl, List, [], ◌∷◌, ◌++◌, ℕ, zero, suc, ◌+◌, ◌/◌, ◌%◌, length}
use Rattle.std.proofs.Common.{ap, ◌∙◌, arith, length-append}
use Rattle.akl.specs.Base.{decimal}

-- the last digit of k
abbrev pub digit : ℕ → ℕ
digit k = 48 + k % 10

-- the last c digits of k
unfoldable pub digits : ℕ → ℕ → List ℕ
digits zero k = []
digits (suc c) k = digits c (k / 10) ++ (digit k ∷ [])

-- the decimal notation of n has r digits
pub record Wide (n r : ℕ) : Type 0 where
  pub is : decimal n ≡ digits r n

pub length_digits : (c k : ℕ) → length (digits c k) ≡ c
unfolding digits
length_digits zero k = refl
length_digits (suc c) k = omega (arith, length-append (digits c (k / 10)) (digit k ∷ []), length_digits c (k / 10))

pub length_decimal : {n r : ℕ} → Wide n r → length (decimal n) ≡ r
length_decimal {n} {r} w = ap length w.is ∙ length_digits r n
