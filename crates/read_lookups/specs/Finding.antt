-- What a search among numbers promises. Assumes nothing.
use Rattle.std.specs.Prelude.{◌≡◌, List, ℕ, ◌+◌, ◌<◌, get_or}
use Rattle.std.proofs.Common.{ap, sym, ◌∙◌, arith}
use Rattle.std.proofs.Math.Decide.{ℕ_discrete}
use Rattle.std.specs.Prelude as std
use Rattle.read_lookups.specs.declared.Variable.{Variable}

-- i is the first position of id among the first k numbers
pub record FirstAt (O : List ℕ) (k id i : ℕ) : Type 0 where
  pub inside : i < k
  pub is : get_or O i 0 ≡ id
  pub earlier : (j : ℕ) → j < i → get_or O j 0 ≡ id → ⊥

-- What `number_of` promises of its answer.
abbrev pub FoundAt : List ℕ → ℕ → ℕ → std.Option Variable → Type 0
FoundAt O k id (std.Some v) = FirstAt O k id v.0
FoundAt O k id std.None = (j : ℕ) → j < k → get_or O j 0 ≡ id → ⊥

-- the search goes one further
pub not_yet : (O : List ℕ) (id i : ℕ) → ((j : ℕ) → j < i → get_or O j 0 ≡ id → ⊥) → (get_or O i 0 ≡ id → ⊥) → (j : ℕ) → j < i + 1 → get_or O j 0 ≡ id → ⊥
not_yet O id i h n j l e = go (ℕ_discrete j i)
  where
    go : Dec (j ≡ i) → ⊥
    go (yes q) = n (ap (λ (m : ℕ). get_or O m 0) (sym q) ∙ e)
    go (no q) = h j (omega arith) e
