-- Bits of numbers, and a definition that is marked in the table of arities. Assumes nothing.
use Rattle.std.specs.Prelude.{◌≡◌, refl, List, Bool, true, false, ◌&&◌, ◌||◌, ℕ, zero, suc, ◌+◌, ◌*◌, ◌/◌, ◌^◌, ◌≤◌, ◌<◌, leb, ltb, eqb, length}
use Rattle.std.proofs.Common.{ap, ap₂, sym, ◌∙◌, subst, arith, lt-ltb, le-leb, eq-eqb, ne_eqb}
use Rattle.std.proofs.Math.Decide.{ℕ_discrete}
use Rattle.std.proofs.Math.ListN.{get_or}
use Rattle.std.proofs.lemmas.Bool.{eqb-false}
use Rattle.std.proofs.lemmas.Nat.{pow-add}
use Rattle.mem_numbers.specs.Stored.{Stored, stored_same, stored_other}
use Rattle.check_tables.specs.Tables.{bit, def_of}

unfoldable pub power : ℕ → ℕ
power zero = 1
power (suc k) = 2 * power k

pub power_is : (k : ℕ) → 2 ^ k ≡ power k
unfolding power
power_is zero = refl
power_is (suc k) = let e : suc k ≡ 1 + k = omega arith in ap (λ (n : ℕ). 2 ^ n) e ∙ pow-add 2 1 k ∙ ap (λ (n : ℕ). 2 * n) (power_is k)

bit_small : (k a : ℕ) → bit k a < 2
unfolding bit
bit_small zero a = omega arith
bit_small (suc k) a = bit_small k (a / 2)

-- a bit that is not 1 is 0
bit_zero : (k a : ℕ) → eqb (bit k a) 1 ≡ false → bit k a ≡ 0
bit_zero k a e = let n = eqb-false (bit k a) 1 e in let s = bit_small k a in omega (arith, n, s)

same_bit : (k a : ℕ) → bit k a ≡ 0 → bit k (a + power k) ≡ 1
unfolding bit power
same_bit zero a e = omega (arith, e)
same_bit (suc k) a e = let z : (a + 2 * power k) / 2 ≡ a / 2 + power k = omega arith in ap (bit k) z ∙ same_bit k (a / 2) e

other_bit : (k j a : ℕ) → bit k a ≡ 0 → (j ≡ k → ⊥) → bit j (a + power k) ≡ bit j a
unfolding bit power
other_bit zero zero a e n = absurd (n refl)
other_bit zero (suc j) a e n = let z : (a + 1) / 2 ≡ a / 2 = omega (arith, e) in ap (bit j) z
other_bit (suc k) zero a e n = omega arith
other_bit (suc k) (suc j) a e n = let z : (a + 2 * power k) / 2 ≡ a / 2 + power k = omega arith in ap (bit j) z ∙ other_bit k j (a / 2) e (λ q. n (ap suc q))

-- there is room for a bit below the highest
room : (k e a : ℕ) → k < e → a < power e → bit k a ≡ 0 → a + power k < power e
unfolding bit power
room k zero a h b z = absurd (omega arith)
room zero (suc e) a h b z = omega (arith, z)
room (suc k) (suc e) a h b z = let i : a / 2 < power e = omega arith in omega (arith, room k e (a / 2) (omega arith) i z)

pub room_two : (k a : ℕ) → k ≤ 8 → a < 65536 → eqb (bit k a) 1 ≡ false → a + power k < 65536
unfolding power
room_two k a h b z = room k 16 a (omega arith) b (bit_zero k a z)

-- ---------------------------------------------------------------------------------------------
-- A definition that is marked.

same_def : (m : ℕ) (A X : List ℕ) (q j : ℕ) → get_or X q 0 ≡ get_or A q 0 → def_of m X q j ≡ def_of m A q j
unfolding def_of
same_def m A X q j e = ap (λ (v : ℕ). ltb q m && (leb j 8 && eqb (bit j v) 1)) e

module _ (m p k : ℕ) (A X : List ℕ) (s : Stored A p (get_or A p 0 + power k) X) (b : p < m) (i : p < length A) (h : k ≤ 8) (z : eqb (bit k (get_or A p 0)) 1 ≡ false) where
  there : (j : ℕ) → def_of m X p j ≡ ((true && eqb k j) || def_of m A p j)
  unfolding def_of
  there j = go (ℕ_discrete k j)
    where
      new : get_or X p 0 ≡ get_or A p 0 + power k
      new = stored_same 0 s i

      go : Dec (k ≡ j) → (ltb p m && (leb j 8 && eqb (bit j (get_or X p 0)) 1)) ≡ (eqb k j || (ltb p m && (leb j 8 && eqb (bit j (get_or A p 0)) 1)))
      go (yes e) =
          let l : leb j 8 ≡ true = le-leb j 8 (omega (arith, h, e)) in
          let o : bit j (get_or X p 0) ≡ 1 = ap (bit j) new ∙ ap (λ (n : ℕ). bit n (get_or A p 0 + power k)) (sym e) ∙ same_bit k (get_or A p 0) (bit_zero k (get_or A p 0) z) in
          ap₂ (λ (c d : Bool). c && (d && eqb (bit j (get_or X p 0)) 1)) (lt-ltb p m b) l ∙ ap (λ (n : ℕ). eqb n 1) o ∙ sym (ap (λ (c : Bool). c || (ltb p m && (leb j 8 && eqb (bit j (get_or A p 0)) 1))) (eq-eqb k j e))
      go (no n) =
          let o : bit j (get_or X p 0) ≡ bit j (get_or A p 0) = ap (bit j) new ∙ other_bit k j (get_or A p 0) (bit_zero k (get_or A p 0) z) (λ e. n (sym e)) in
          ap (λ (v : ℕ). ltb p m && (leb j 8 && eqb v 1)) o ∙ sym (ap (λ (c : Bool). c || (ltb p m && (leb j 8 && eqb (bit j (get_or A p 0)) 1))) (ne_eqb k j n))

  pub marked : (q j : ℕ) → def_of m X q j ≡ ((eqb p q && eqb k j) || def_of m A q j)
  marked q j = go (ℕ_discrete p q)
    where
      away : (p ≡ q → ⊥) → def_of m X q j ≡ def_of m A q j
      away n = same_def m A X q j (stored_other q 0 s (λ e. n (sym e)))

      go : Dec (p ≡ q) → def_of m X q j ≡ ((eqb p q && eqb k j) || def_of m A q j)
      go (yes e) = subst (λ (v : ℕ). def_of m X v j ≡ ((eqb p v && eqb k j) || def_of m A v j)) e (there j ∙ ap (λ (c : Bool). (c && eqb k j) || def_of m A p j) (sym (eq-eqb p p refl)))
      go (no n) = away n ∙ ap (λ (c : Bool). (c && eqb k j) || def_of m A q j) (sym (ne_eqb p q n))
