-- The weight of a table of classes. The changes of a join, of a binding or of an owner raise it by at least as many as they
-- are, so it is a bound for the length of the trail; and 3 for each cell that has any is a bound for it. Assumes nothing.
use Rattle.std.specs.Prelude.{◌≡◌, refl, ◌⊎◌, List, [], ◌∷◌, ℕ, zero, suc, ◌+◌, ◌*◌, ◌%◌, ◌≤◌, ◌<◌, length, get_or, set}
use Rattle.std.proofs.Common.{ap, ◌∙◌, inl, inr, arith, get_or-set_same, get_or-set_other}
use Rattle.std.proofs.Math.Logic.{ite, if_pos, if_neg}
use Rattle.std.proofs.Math.Decide.{ℕ_discrete, dec_lt}
use Rattle.std.proofs.Math.ListN.{get_or-eq_default}
use Rattle.constraint.specs.Constraint.{In}
use Rattle.mem_numbers.specs.Stored.{Stored}

-- of a cell: a link has 3, because linking takes two entries and the cell may have had 1; a bound or owned one 1
unfoldable pub weight : ℕ → ℕ
weight c = ite (ℕ_discrete (c % 4) 1) 3 (ite (ℕ_discrete (c % 4) 0) 0 1)

unfoldable pub weights : List ℕ → ℕ
weights [] = 0
weights (c ∷ T) = weight c + weights T

pub weight_link : (c : ℕ) → c % 4 ≡ 1 → weight c ≡ 3
unfolding weight
weight_link c e = if_pos (ℕ_discrete (c % 4) 1) e _ _

pub weight_open : (c : ℕ) → c % 4 ≡ 0 → weight c ≡ 0
unfolding weight
weight_open c e = if_neg (ℕ_discrete (c % 4) 1) (λ q. omega arith) _ _ ∙ if_pos (ℕ_discrete (c % 4) 0) e _ _

pub weight_taken : (c : ℕ) → (c % 4 ≡ 0 → ⊥) → (c % 4 ≡ 1 → ⊥) → weight c ≡ 1
unfolding weight
weight_taken c n m = if_neg (ℕ_discrete (c % 4) 1) m _ _ ∙ if_neg (ℕ_discrete (c % 4) 0) n _ _

pub weight_free : (c : ℕ) → (c % 4 ≡ 1 → ⊥) → (c % 4 ≡ 2 → ⊥) → (c % 4 ≡ 3 → ⊥) → weight c ≡ 0
weight_free c n m k = go (ℕ_discrete (c % 4) 0)
  where
    go : Dec (c % 4 ≡ 0) → weight c ≡ 0
    go (yes e) = weight_open c e
    go (no z) = absurd (omega arith)

pub weight_kind : (c c' : ℕ) → c' % 4 ≡ c % 4 → weight c' ≡ weight c
unfolding weight
weight_kind c c' e = ap (λ (k : ℕ). ite (ℕ_discrete k 1) 3 (ite (ℕ_discrete k 0) 0 1)) e

pub weight_root : (c : ℕ) → (c % 4 ≡ 1 → ⊥) → weight c ≤ 1
weight_root c n = go (ℕ_discrete (c % 4) 0)
  where
    go : Dec (c % 4 ≡ 0) → weight c ≤ 1
    go (yes e) = omega (arith, weight_open c e)
    go (no z) = omega (arith, weight_taken c z n)

weight_most : (c : ℕ) → weight c ≤ 3
weight_most c = go (ℕ_discrete (c % 4) 1)
  where
    go : Dec (c % 4 ≡ 1) → weight c ≤ 3
    go (yes e) = omega (arith, weight_link c e)
    go (no n) = omega (arith, weight_root c n)

weights_set : (T : List ℕ) (x c : ℕ) → x < length T → weights (set T x c) + weight (get_or T x 0) ≡ weights T + weight c
unfolding weights
weights_set [] x c l = absurd (omega arith)
weights_set (d ∷ T) zero c l = omega arith
weights_set (d ∷ T) (suc x) c l = let h = weights_set T x c (omega arith) in omega (arith, h)

-- one cell changed
pub weights_stored : {T T' : List ℕ} {x c : ℕ} → Stored T x c T' → x < length T → weights T' + weight (get_or T x 0) ≡ weights T + weight c
weights_stored {T} {T'} {x} {c} s l = ap (λ (t : List ℕ). weights t + weight (get_or T x 0)) s.list ∙ weights_set T x c l

-- a bound by the number of cells
pub weights_most : (T : List ℕ) → weights T ≤ 3 * length T
unfolding weights
weights_most [] = omega arith
weights_most (c ∷ T) = omega (arith, weight_most c, weights_most T)

weights_open : (T : List ℕ) → ((x : ℕ) → get_or T x 0 % 4 ≡ 0) → weights T ≡ 0
unfolding weights
weights_open [] h = refl
weights_open (c ∷ T) h = let a = weight_open c (h 0) in let b = weights_open T (λ x. h (suc x)) in omega (arith, a, b)

-- a bound by the variables whose cells have a weight: one after another is taken from them
pub weights_in : (vs T : List ℕ) → ((x : ℕ) → (get_or T x 0 % 4 ≡ 0) ⊎ In x vs) → weights T ≤ 3 * length vs
weights_in [] T h = omega (arith, weights_open T (λ x. go x (h x)))
  where
    go : (x : ℕ) → (get_or T x 0 % 4 ≡ 0) ⊎ ⊥ → get_or T x 0 % 4 ≡ 0
    go x (inl e) = e
    go x (inr n) = absurd n
weights_in (v ∷ vs) T h = go (λ t k. weights_in vs t k) (dec_lt v (length T))
  where
    go : ((t : List ℕ) → ((x : ℕ) → (get_or t x 0 % 4 ≡ 0) ⊎ In x vs) → weights t ≤ 3 * length vs) → Dec (v < length T) → weights T ≤ 3 * length (v ∷ vs)
    go ih (yes l) = omega (arith, ih (set T v 0) (λ x. at x (ℕ_discrete x v) (h x)), weights_set T v 0 l, weight_most (get_or T v 0))
      where
        at : (x : ℕ) → Dec (x ≡ v) → (get_or T x 0 % 4 ≡ 0) ⊎ ((x ≡ v) ⊎ In x vs) → (get_or (set T v 0) x 0 % 4 ≡ 0) ⊎ In x vs
        at x (yes e) k = inl (ap (λ (c : ℕ). c % 4) (ap (λ (y : ℕ). get_or (set T v 0) y 0) e ∙ get_or-set_same T v 0 0 l))
        at x (no n) (inl e) = inl (ap (λ (c : ℕ). c % 4) (get_or-set_other T v x 0 0 n) ∙ e)
        at x (no n) (inr (inl e)) = absurd (n e)
        at x (no n) (inr (inr k)) = inr k
    go ih (no l) = omega (arith, ih T (λ x. at x (h x)))
      where
        at : (x : ℕ) → (get_or T x 0 % 4 ≡ 0) ⊎ ((x ≡ v) ⊎ In x vs) → (get_or T x 0 % 4 ≡ 0) ⊎ In x vs
        at x (inl e) = inl e
        at x (inr (inl e)) = inl (ap (λ (c : ℕ). c % 4) (get_or-eq_default T 0 (let q : length T ≤ x = omega arith in q)))
        at x (inr (inr k)) = inr k
