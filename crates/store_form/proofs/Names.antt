-- The table of names: different numbers below the count are those of different names, and names and numbers find each other.
use mathlib.Core.Path.{◌≡◌, refl, ap, sym, ◌∙◌, subst}
use mathlib.Core.Logic.{◌⊎◌, inl, inr}
use mathlib.Core.List.{List, [], ◌∷◌}
use mathlib.Core.Bool.{Bool, true, false}
use Prim.Native.Nat.{ℕ, zero, suc, ◌+◌, ◌/◌, ◌<◌, ◌≤◌}
use native.Mathlib.Omega.{arith}
use lib.Dec.{T, ltb, ltb→lt, lt→ltb}
use lib.ListN.{length, get_or}
use Rattle.constraint.specs.Constraint.{In}
use Rattle.constraint.specs.Solve.{distinct}
use Rattle.constraint.proofs.Lists.{and_T, distinct_cons}
use Rattle.akl.specs.Base.{Name, same, if}
use Rattle.akl.proofs.Names.{same_eq, same_refl}
use Rattle.read_nodes.specs.Spell.{named, Lower, named_once}
use Rattle.store_form.specs.Sizes.{two_bytes}
use Rattle.store_form.specs.State.{State, table, number_from, number_in}
use Rattle.store_form.specs.Holding.{lowered, Fits}

-- ---------------------------------------------------------------------------------------------
-- The tests on cells, by positions.

pub lowered_at : (l : List ℕ) (i : ℕ) → T (lowered i l) → (j : ℕ) → j < length l → get_or l j 0 / 256 < i + j
unfolding lowered
lowered_at [] i t j h = absurd (omega arith)
lowered_at (c ∷ l) i t zero h = omega (arith, ltb→lt (c / 256) i ((and_T (ltb (c / 256) i) (lowered (suc i) l)).0 t).0)
lowered_at (c ∷ l) i t (suc j) h = omega (arith, lowered_at l (suc i) ((and_T (ltb (c / 256) i) (lowered (suc i) l)).0 t).1 j (omega arith))

pub at_lowered : (l : List ℕ) (i : ℕ) → ((j : ℕ) → j < length l → get_or l j 0 / 256 < i + j) → T (lowered i l)
unfolding lowered
at_lowered [] i g = tt
at_lowered (c ∷ l) i g = (and_T (ltb (c / 256) i) (lowered (suc i) l)).1 (lt→ltb (c / 256) i (omega (arith, g 0 (omega arith))), at_lowered l (suc i) (λ j h. omega (arith, g (suc j) (omega arith))))

get_or_In : (l : List ℕ) (j : ℕ) → j < length l → In (get_or l j 0) l
get_or_In [] j h = absurd (omega arith)
get_or_In (x ∷ l) zero h = inl refl
get_or_In (x ∷ l) (suc j) h = inr (get_or_In l j (omega arith))

In-getD : (x : ℕ) (l : List ℕ) → In x l → (j : ℕ) × (j < length l) × (get_or l j 0 ≡ x)
In-getD x [] i = elim i [ ]
In-getD x (y ∷ l) (inl e) = (0, omega arith, sym e)
In-getD x (y ∷ l) (inr i) = let r = In-getD x l i in (suc r.0, omega (arith, r.1), r.2)

pub distinct_at : (l : List ℕ) → T (distinct l) → (i j : ℕ) → i < length l → j < length l → get_or l i 0 ≡ get_or l j 0 → i ≡ j
distinct_at [] t i j h g e = absurd (omega arith)
distinct_at (x ∷ l) t zero zero h g e = refl
distinct_at (x ∷ l) t zero (suc j) h g e = absurd (((distinct_cons x l).0 t).0 (subst (λ (y : ℕ). In y l) (sym e) (get_or_In l j (omega arith))))
distinct_at (x ∷ l) t (suc i) zero h g e = absurd (((distinct_cons x l).0 t).0 (subst (λ (y : ℕ). In y l) e (get_or_In l i (omega arith))))
distinct_at (x ∷ l) t (suc i) (suc j) h g e = ap suc (distinct_at l ((distinct_cons x l).0 t).1 i j (omega arith) (omega arith) e)

pub at_distinct : (l : List ℕ) → ((i j : ℕ) → i < length l → j < length l → get_or l i 0 ≡ get_or l j 0 → i ≡ j) → T (distinct l)
unfolding distinct
at_distinct [] g = tt
at_distinct (x ∷ l) g =
    (distinct_cons x l).1 (
      (λ i. let r = In-getD x l i in let z = g 0 (suc r.0) (omega arith) (omega (arith, r.1)) (sym r.2) in omega (arith, z)),
      at_distinct l (λ i j a b e. let z = g (suc i) (suc j) (omega arith) (omega arith) e in omega (arith, z)),
    )

-- ---------------------------------------------------------------------------------------------
-- Names and numbers.

-- a number that was found is that of the name
found : (k i : ℕ) (N : List ℕ) (f : Name) → (number_from k i N f ≡ two_bytes) ⊎ ((named N (number_from k i N f) ≡ f) × (number_from k i N f < i + k))
unfolding number_from
found zero i N f = inl refl
found (suc k) i N f = go (same (named N i) f) refl (found k (suc i) N f)
  where
    go : (b : Bool) → same (named N i) f ≡ b → (number_from k (suc i) N f ≡ two_bytes) ⊎ ((named N (number_from k (suc i) N f) ≡ f) × (number_from k (suc i) N f < suc i + k)) → (if b i (number_from k (suc i) N f) ≡ two_bytes) ⊎ ((named N (if b i (number_from k (suc i) N f)) ≡ f) × (if b i (number_from k (suc i) N f) < i + suc k))
    go true e h = inr (same_eq (named N i) f e, omega arith)
    go false e (inl z) = inl z
    go false e (inr p) = inr (p.0, omega (arith, p.1))

-- A number that has two bytes is that of its name, and below the count.
pub number_back : (N : List ℕ) (f : Name) → number_in N f < two_bytes → (named N (number_in N f) ≡ f) × (number_in N f < length N)
unfolding number_in
number_back N f h = go (found (length N) 0 N f)
  where
    go : (number_from (length N) 0 N f ≡ two_bytes) ⊎ ((named N (number_from (length N) 0 N f) ≡ f) × (number_from (length N) 0 N f < 0 + length N)) → (named N (number_from (length N) 0 N f) ≡ f) × (number_from (length N) 0 N f < length N)
    go (inl z) = absurd (omega (arith, h, z))
    go (inr p) = (p.0, omega (arith, p.1))

numbered_from : (k i j n : ℕ) (N : List ℕ) → ((a b : ℕ) → a < n → b < n → named N a ≡ named N b → a ≡ b) → i ≤ j → j < i + k → i + k ≤ n → number_from k i N (named N j) ≡ j
unfolding number_from
numbered_from zero i j n N A a b c = absurd (omega arith)
numbered_from (suc k) i j n N A a b c = go (same (named N i) (named N j)) refl (λ h. numbered_from k (suc i) j n N A h (omega arith) (omega arith))
  where
    later : same (named N i) (named N j) ≡ false → i ≡ j → ⊥
    later e z = let u : true ≡ false = sym (same_refl (named N i)) ∙ ap (λ (x : ℕ). same (named N i) (named N x)) z ∙ e in let y : ◌≡◌ {A = ℕ} 1 0 = ap (λ (b : Bool). elim b as (λ v. ℕ) [ false ↦ 0 | true ↦ 1 ]) u in omega arith

    after : (i ≡ j → ⊥) → i ≤ j → suc i ≤ j
    after ne le = omega arith

    go : (b : Bool) → same (named N i) (named N j) ≡ b → (suc i ≤ j → number_from k (suc i) N (named N j) ≡ j) → if b i (number_from k (suc i) N (named N j)) ≡ j
    go true e h = A i j (omega arith) (omega arith) (same_eq (named N i) (named N j) e)
    go false e h = h (after (later e) a)

-- Where different numbers are those of different names, a node's name has its number.
pub number_named : (N : List ℕ) → ((a b : ℕ) → a < length N → b < length N → named N a ≡ named N b → a ≡ b) → (j : ℕ) → j < length N → number_in N (named N j) ≡ j
unfolding number_in
number_named N A j h = numbered_from (length N) 0 j (length N) N A (omega arith) (omega arith) (omega arith)

-- ---------------------------------------------------------------------------------------------
-- A state's table.

module _ (limit : ℕ) (s : State) (F : Fits limit s) where
  pub parents_lower : Lower (table s) (suc (length s.cells))
  parents_lower zero a b = absurd (omega arith)
  parents_lower (suc j) a b = omega (arith, lowered_at s.cells 1 F.lower j (omega arith))

  cells_differ : (i j : ℕ) → 0 < i → i < suc (length s.cells) → 0 < j → j < suc (length s.cells) → get_or (table s) i 0 ≡ get_or (table s) j 0 → i ≡ j
  cells_differ zero j a b c d e = absurd (omega arith)
  cells_differ (suc i) zero a b c d e = absurd (omega arith)
  cells_differ (suc i) (suc j) a b c d e = ap suc (distinct_at s.cells F.apart i j (omega arith) (omega arith) e)

  -- any two numbers below the count stand for different names
  pub names_apart : (i j : ℕ) → i < suc (length s.cells) → j < suc (length s.cells) → named (table s) i ≡ named (table s) j → i ≡ j
  names_apart i j a b e = named_once i i j (table s) (suc (length s.cells)) parents_lower cells_differ (omega arith) a b e

  -- a node's name has its number
  pub node_number : (j : ℕ) → j < suc (length s.cells) → number_in (table s) (named (table s) j) ≡ j
  node_number j h = number_named (table s) names_apart j h
