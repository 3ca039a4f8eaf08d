-- A test's answer as a decision. Assumes nothing.
use Rattle.std.specs.Prelude.{◌≡◌, Bool, true, false, ℕ}
use Rattle.std.proofs.Common.{arith}

-- the answer is true exactly when P holds
abbrev pub Decides : Type 0 → Bool → Type 0
Decides P true = P
Decides P false = P → ⊥

-- reading a decision
pub decided_yes : {P : Type 0} (r : Bool) → r ≡ true → Decides P r → P
decided_yes true e d = d
decided_yes false e d = absurd (false_true e)
  where
    false_true : false ≡ true → ⊥
    false_true e = let z : ◌≡◌ {A = ℕ} 0 1 = cc in omega arith

pub decided_no : {P : Type 0} (r : Bool) → r ≡ false → Decides P r → P → ⊥
decided_no false e d = d
decided_no true e d = absurd (true_false e)
  where
    true_false : true ≡ false → ⊥
    true_false e = let z : ◌≡◌ {A = ℕ} 0 1 = cc in omega arith
