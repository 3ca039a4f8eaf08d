-- What reading from and writing to a lent list of elements means, for elements of any type. Assumes nothing.
use Rattle.std.specs.Prelude.{◌≡◌, refl, List, [], ◌∷◌, ℕ, zero, suc, ◌<◌, ◌≤◌, length, get_or, set, take, drop}
use Rattle.std.proofs.Common.{ap, ◌∙◌, not-suc-le-zero, le_of_suc-le-suc, get_or-set_same, get_or-set_other, drop-set-lt}
use Rattle.std.proofs.lemmas.List.{take-set-le}

-- X is L with v at i
pub record Stored {A : Type 0} (L : List A) (i : ℕ) (v : A) (X : List A) : Type 0 where
  pub list : X ≡ set L i v
  pub long : length X ≡ length L

-- get after put: at the index itself
pub stored_same : {A : Type 0} {L X : List A} {i : ℕ} {v : A} (d : A) → Stored L i v X → i < length L → get_or X i d ≡ v
stored_same {A} {L} {X} {i} {v} d s h = ap (λ (l : List A). get_or l i d) s.list ∙ get_or-set_same L i v d h

-- get after put: at every other index
pub stored_other : {A : Type 0} {L X : List A} {i : ℕ} {v : A} (j : ℕ) (d : A) → Stored L i v X → (j ≡ i → ⊥) → get_or X j d ≡ get_or L j d
stored_other {A} {L} {X} {i} {v} j d s n = ap (λ (l : List A). get_or l j d) s.list ∙ get_or-set_other L i j v d n

-- what stands before the index, and after it, is as it was
pub stored_before : {A : Type 0} {L X : List A} {i : ℕ} {v : A} (n : ℕ) → Stored L i v X → n ≤ i → take n X ≡ take n L
stored_before {A} {L} {X} {i} {v} n s h = ap (take n) s.list ∙ take-set-le n L i v h

pub stored_after : {A : Type 0} {L X : List A} {i : ℕ} {v : A} (n : ℕ) → Stored L i v X → i < n → drop n X ≡ drop n L
stored_after {A} {L} {X} {i} {v} n s h = ap (drop n) s.list ∙ drop-set-lt n L i v h

-- an element that is there does not depend on what stands for the missing ones
pub get_d_any : {A : Type 0} (l : List A) (i : ℕ) (d e : A) → i < length l → get_or l i d ≡ get_or l i e
get_d_any [] i d e h = absurd (not-suc-le-zero h)
get_d_any (x ∷ l) zero d e h = refl
get_d_any (x ∷ l) (suc i) d e h = get_d_any l i d e (le_of_suc-le-suc h)
