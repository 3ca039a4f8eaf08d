-- The table of numbers: what it says of a class, and what it is when one more class is met. Assumes nothing.
use mathlib.Core.Path.{◌≡◌, refl, ap, sym, ◌∙◌, subst}
use mathlib.Core.Logic.{◌⊎◌, inl, inr}
use mathlib.Core.List.{List, [], ◌∷◌, ◌++◌}
use mathlib.Core.Bool.{Bool, true, false}
use Prim.Native.Nat.{ℕ, suc, ◌+◌, ◌≤◌, ◌<◌}
use native.Mathlib.Omega.{arith}
use native.Mathlib.Decide.{ℕ_discrete}
use lib.ListN.{length, get_or}
use lib.Dec.{T}
use Rattle.constraint.specs.Constraint.{In}
use Rattle.constraint.specs.Solve.{elem, distinct}
use Rattle.constraint.proofs.Lists.{elem_In, distinct_cons, In-append}
use Rattle.akl.specs.Base.{size, if}
use Rattle.akl.specs.Answers.{unbound, unknowns, position}
use Rattle.mem_numbers.specs.Stored.{Stored, stored_same, stored_other}
use Rattle.answer_walk.specs.Numbered.{entry, Numbered}
use Rattle.answer_walk.proofs.Prefix.{position_front, position_new}
use Rattle.answer_walk.proofs.Few.{few}

-- ---------------------------------------------------------------------------------------------
-- What an entry says.

entry_old : (r : ℕ) (s : List ℕ) → elem r s ≡ true → entry r s ≡ suc (position r s)
unfolding entry
entry_old r s e = ap (λ (b : Bool). if b (suc (position r s)) 0) e

entry_none : (r : ℕ) (s : List ℕ) → elem r s ≡ false → entry r s ≡ 0
unfolding entry
entry_none r s e = ap (λ (b : Bool). if b (suc (position r s)) 0) e

unknown_old : (r : ℕ) (s : List ℕ) → elem r s ≡ true → unknowns (unbound r) s ≡ s
unfolding unknowns
unknown_old r s e = ap (λ (b : Bool). if b s (s ++ (r ∷ []))) e

unknown_new : (r : ℕ) (s : List ℕ) → elem r s ≡ false → unknowns (unbound r) s ≡ s ++ (r ∷ [])
unfolding unknowns
unknown_new r s e = ap (λ (b : Bool). if b s (s ++ (r ∷ []))) e

is_out : (r : ℕ) (s : List ℕ) → entry r s ≡ 0 → elem r s ≡ false
is_out r s z = go (elem r s) refl
  where
    go : (b : Bool) → elem r s ≡ b → b ≡ false
    go true e = absurd (omega (arith, z, entry_old r s e))
    go false e = refl

is_in : (r k : ℕ) (s : List ℕ) → entry r s ≡ suc k → elem r s ≡ true
is_in r k s z = go (elem r s) refl
  where
    go : (b : Bool) → elem r s ≡ b → b ≡ true
    go true e = refl
    go false e = absurd (omega (arith, z, entry_none r s e))

not_in : (r : ℕ) (s : List ℕ) → elem r s ≡ false → In r s → ⊥
not_in r s e i = subst T e ((elem_In r s).1 i)

elem_of : (r : ℕ) (s : List ℕ) → In r s → elem r s ≡ true
elem_of r s i = go (elem r s) ((elem_In r s).1 i)
  where
    go : (b : Bool) → T b → b ≡ true
    go true t = refl
    go false t = absurd t

elem_not : (r : ℕ) (s : List ℕ) → (In r s → ⊥) → elem r s ≡ false
elem_not r s n = go (elem r s) (λ t. n ((elem_In r s).0 t))
  where
    go : (b : Bool) → (T b → ⊥) → b ≡ false
    go true t = absurd (t tt)
    go false t = refl

-- ---------------------------------------------------------------------------------------------
-- One more class behind the others.

size_more : (s : List ℕ) (r : ℕ) → size (s ++ (r ∷ [])) ≡ suc (size s)
unfolding size
size_more [] r = refl
size_more (x ∷ s) r = ap suc (size_more s r)

size_length : (s : List ℕ) → length s ≡ size s
unfolding size
size_length [] = refl
size_length (x ∷ s) = ap suc (size_length s)

distinct_more : (s : List ℕ) (r : ℕ) → T (distinct s) → (In r s → ⊥) → T (distinct (s ++ (r ∷ [])))
distinct_more [] r d n = (distinct_cons r []).1 ((λ i. absurd i), distinct_nil)
  where
    distinct_nil : T (distinct [])
    distinct_nil = d
distinct_more (x ∷ s) r d n =
    let k = (distinct_cons x s).0 d in
    (distinct_cons x (s ++ (r ∷ []))).1 (out k.0, distinct_more s r k.1 (λ i. n (inr i)))
  where
    out : (In x s → ⊥) → In x (s ++ (r ∷ [])) → ⊥
    out o i = by ((In-append x s (r ∷ [])).0 i)
      where
        by : In x s ⊎ In x (r ∷ []) → ⊥
        by (inl j) = o j
        by (inr (inl e)) = n (inl (sym e))
        by (inr (inr j)) = absurd j

entry_same : (r : ℕ) (s : List ℕ) → elem r s ≡ false → entry r (s ++ (r ∷ [])) ≡ suc (size s)
entry_same r s e = entry_old r (s ++ (r ∷ [])) (elem_of r (s ++ (r ∷ [])) ((In-append r s (r ∷ [])).1 (inr (inl refl)))) ∙ ap suc (position_new r s e)

entry_other : (k r : ℕ) (s : List ℕ) → (k ≡ r → ⊥) → entry k (s ++ (r ∷ [])) ≡ entry k s
entry_other k r s n = go (elem k s) refl
  where
    go : (b : Bool) → elem k s ≡ b → entry k (s ++ (r ∷ [])) ≡ entry k s
    go true e =
        let i : In k s = (elem_In k s).0 (subst T (sym e) tt) in
        entry_old k (s ++ (r ∷ [])) (elem_of k (s ++ (r ∷ [])) ((In-append k s (r ∷ [])).1 (inl i))) ∙ ap suc (position_front k s (r ∷ []) i) ∙ sym (entry_old k s e)
    go false e = entry_none k (s ++ (r ∷ [])) (elem_not k (s ++ (r ∷ [])) (λ i. by ((In-append k s (r ∷ [])).0 i))) ∙ sym (entry_none k s e)
      where
        by : In k s ⊎ In k (r ∷ []) → ⊥
        by (inl j) = not_in k s e j
        by (inr (inl q)) = n q
        by (inr (inr j)) = absurd j

-- ---------------------------------------------------------------------------------------------
-- The table.

-- zeros number nothing
pub number_none : {N : List ℕ} (m : ℕ) → ((r : ℕ) → get_or N r 0 ≡ 0) → Numbered N [] 0 m
unfolding entry elem size distinct
number_none m h = record { is = h; count = refl; apart = tt; low = λ r i. absurd i }

-- a class with an entry was met: the entry is one more than its number, and the list stays
pub number_old : {N s : List ℕ} {c m : ℕ} (r k : ℕ) → Numbered N s c m → get_or N r 0 ≡ suc k → (unknowns (unbound r) s ≡ s) × (position r (unknowns (unbound r) s) ≡ k)
number_old {N} {s} r k n e =
    let i : elem r s ≡ true = is_in r k s (sym (n.is r) ∙ e) in
    let p : suc (position r s) ≡ suc k = sym (entry_old r s i) ∙ sym (n.is r) ∙ e in
    (unknown_old r s i, ap (position r) (unknown_old r s i) ∙ (omega (arith, p)))

-- a class without an entry is new: its number is the count
pub number_new : {N s : List ℕ} {c m : ℕ} (r : ℕ) → Numbered N s c m → get_or N r 0 ≡ 0 → position r (unknowns (unbound r) s) ≡ c
number_new {N} {s} r n e =
    let o : elem r s ≡ false = is_out r s (sym (n.is r) ∙ e) in
    ap (position r) (unknown_new r s o) ∙ position_new r s o ∙ sym n.count

-- and with its entry put the table is that of one class more
pub number_put : {N X s : List ℕ} {c m : ℕ} (r : ℕ) → Numbered N s c m → get_or N r 0 ≡ 0 → r < m → r < length N → Stored N r (c + 1) X → Numbered X (unknowns (unbound r) s) (c + 1) m
number_put {N} {X} {s} {c} {m} r n e l k w = subst (λ (u : List ℕ). Numbered X u (c + 1) m) (sym (unknown_new r s o)) (record {
  is = λ j. at j (ℕ_discrete j r);
  count = omega (arith, n.count, size_more s r);
  apart = distinct_more s r n.apart (not_in r s o);
  low = λ j i. below j ((In-append j s (r ∷ [])).0 i);
})
  where
    o : elem r s ≡ false
    o = is_out r s (sym (n.is r) ∙ e)

    at : (j : ℕ) → Dec (j ≡ r) → get_or X j 0 ≡ entry j (s ++ (r ∷ []))
    at j (yes q) = subst (λ (z : ℕ). get_or X z 0 ≡ entry z (s ++ (r ∷ []))) (sym q) (omega (arith, stored_same 0 w k, entry_same r s o, n.count))
    at j (no d) = stored_other j 0 w d ∙ n.is j ∙ sym (entry_other j r s d)

    below : (j : ℕ) → In j s ⊎ In j (r ∷ []) → j < m
    below j (inl i) = n.low j i
    below j (inr (inl q)) = omega arith
    below j (inr (inr i)) = absurd i

-- there are no more numbers than classes, and a new one is below their bound
pub number_few : {N s : List ℕ} {c m : ℕ} → Numbered N s c m → c ≤ m
number_few {N} {s} {c} {m} n = omega (arith, few m s n.apart n.low, size_length s, n.count)

pub number_less : {N s : List ℕ} {c m : ℕ} (r : ℕ) → Numbered N s c m → get_or N r 0 ≡ 0 → r < m → c < m
number_less {N} {s} {c} {m} r n e l = omega (arith, few m (s ++ (r ∷ [])) (distinct_more s r n.apart (not_in r s o)) (λ j i. below j ((In-append j s (r ∷ [])).0 i)), size_length (s ++ (r ∷ [])), size_more s r, n.count)
  where
    o : elem r s ≡ false
    o = is_out r s (sym (n.is r) ∙ e)

    below : (j : ℕ) → In j s ⊎ In j (r ∷ []) → j < m
    below j (inl i) = n.low j i
    below j (inr (inl q)) = omega arith
    below j (inr (inr i)) = absurd i
