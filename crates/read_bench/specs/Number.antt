-- The answers of `read_both::read` as numbers, and its five counts in a table. Assumes nothing.
use Rattle.std.specs.Prelude.{◌≡◌, ◌⊎◌, Bool, true, false, List, [], ◌∷◌, ℕ, ◌≤◌, ◌<◌, length, take}
use Rattle.refusals.specs.Refusals.{number_of}
use Rattle.read_inputs.specs.declared.Inputs.{Inputs}
use Rattle.read_inputs.specs.declared.Inputs.TheVariants.{Read, Refused, Short}

-- numbers of four bytes
pub record Small (a b c d e : ℕ) : Type 0 where
  pub first : a < 4294967296
  pub second : b < 4294967296
  pub third : c < 4294967296
  pub fourth : d < 4294967296
  pub fifth : e < 4294967296

abbrev pub Told : List ℕ → ℕ → ℕ → ℕ → ℕ → ℕ → List ℕ → Bool → Type 0
Told C a b c d e C' true = take 5 C' ≡ (a ∷ b ∷ c ∷ d ∷ e ∷ [])
Told C a b c d e C' false = 5 ≤ length C → Small a b c d e → ⊥

-- five numbers written to the table C; or there is no room, or one of them is too large
pub record Written (C : List ℕ) (a b c d e : ℕ) (C' : List ℕ) (r : Bool) : Type 0 where
  pub told : Told C a b c d e C' r

-- n is the number of an answer, and the counts of what was read are in C'
abbrev pub Says : Inputs → List ℕ → ℕ → Type 0
Says (Read d a v b m) C' n = ((n ≡ 0) × (take 5 C' ≡ (d ∷ a ∷ v ∷ b ∷ m ∷ []))) ⊎ ((n ≡ 22) × (Small d a v b m → ⊥))
Says (Refused r) C' n = n ≡ number_of r
Says Short C' n = n ≡ 21

pub record Answered (Right : Inputs → Type 0) (C' : List ℕ) (n : ℕ) : Type 0 where
  pub answer : Inputs
  pub says : Says answer C' n
  pub right : Right answer

-- n is the number of an answer that is right; or 20, and C has no room for five counts
pub record Numbered (Right : Inputs → Type 0) (C C' : List ℕ) (n : ℕ) : Type 0 where
  pub meant : ((n ≡ 20) × (length C < 5)) ⊎ Answered Right C' n
