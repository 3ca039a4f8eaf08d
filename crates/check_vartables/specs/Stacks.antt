-- A stack of open brackets in a table: the positions of their first words, in increasing order. Assumes nothing.
use Rattle.std.specs.Prelude.{◌≡◌, refl, List, [], ◌∷◌, ℕ, zero, suc, ◌+◌, ◌≤◌, ◌<◌, length, get_or}
use Rattle.std.proofs.Common.{ap₂, subst, arith}
use Rattle.std.proofs.Math.Decide.{dec_lt}
use Rattle.mem_numbers.specs.Stored.{Stored, stored_same, stored_other}

-- the positions of k open brackets, the innermost first
unfoldable pub tops : List ℕ → ℕ → List ℕ
tops P zero = []
tops P (suc k) = get_or P k 0 ∷ tops P k

-- they rise, and lie below i
pub record Rising (P : List ℕ) (k i : ℕ) : Type 0 where
  pub low : (j : ℕ) → j < k → get_or P j 0 < i
  pub up : (a b : ℕ) → a < b → b < k → get_or P a 0 < get_or P b 0

-- a bracket that opens at i
pub tops_same : {P Q : List ℕ} {m v : ℕ} → Stored P m v Q → (k : ℕ) → k ≤ m → tops Q k ≡ tops P k
unfolding tops
tops_same s zero h = refl
tops_same {P} {Q} {m} {v} s (suc k) h = ap₂ (λ (p : ℕ) (l : List ℕ). p ∷ l) (stored_other k 0 s (λ e. omega arith)) (tops_same s k (omega arith))

pub rising_pushed : {P Q : List ℕ} {k i : ℕ} → k < length P → Stored P k i Q → Rising P k i → Rising Q (k + 1) (i + 1)
rising_pushed {P} {Q} {k} {i} l s r = record { low = λ j h. lower j h (dec_lt j k); up = λ a b h g. upper a b h g (dec_lt b k) }
  where
    here : get_or Q k 0 ≡ i
    here = stored_same 0 s l

    there : (j : ℕ) → j < k → get_or Q j 0 ≡ get_or P j 0
    there j h = stored_other j 0 s (λ e. omega arith)

    lower : (j : ℕ) → j < k + 1 → Dec (j < k) → get_or Q j 0 < i + 1
    lower j h (yes q) = omega (arith, there j q, r.low j q)
    lower j h (no q) = let e : k ≡ j = omega arith in subst (λ (z : ℕ). get_or Q z 0 < i + 1) e (omega (arith, here))

    upper : (a b : ℕ) → a < b → b < k + 1 → Dec (b < k) → get_or Q a 0 < get_or Q b 0
    upper a b h g (yes q) = omega (arith, there a (omega arith), there b q, r.up a b h q)
    upper a b h g (no q) =
        let e : k ≡ b = omega arith in
        let n : a < k = omega arith in
        subst (λ (z : ℕ). get_or Q a 0 < get_or Q z 0) e (omega (arith, here, there a n, r.low a n))

pub rising_on : {P : List ℕ} {k m i : ℕ} → m ≤ k → Rising P k i → Rising P m (i + 1)
rising_on {P} {k} {m} {i} h r = record { low = λ j g. let a = r.low j (omega arith) in omega (arith, a); up = λ a b g q. r.up a b g (omega arith) }
