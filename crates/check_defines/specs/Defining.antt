-- One more definition in the table of arities. Assumes nothing.
use Rattle.std.specs.Prelude.{◌≡◌, List, Bool, ◌&&◌, ◌||◌, ℕ, ◌+◌, ◌≤◌, ◌<◌, leb, ltb, get_or}
use Rattle.std.proofs.Math.Path.{refl, ap, sym, subst}
use Rattle.std.proofs.Common.{ap₂, ◌∙◌, arith}
use Rattle.std.proofs.Math.Bool.{true, false, not}
use Rattle.std.proofs.Math.Dec.{eqb}
use borrow.Author.Tests.{ltb-true, lt-ltb, le-ltb, le-leb, lt-leb}
use Rattle.mem_numbers.specs.Numbers.{shorts, Got}
use Rattle.mem_numbers.specs.Stored.{Stored}
use Rattle.mem_parts.specs.Parts.{cut, Outside, CanSet, Set2}
use Rattle.check_tables.specs.Tables.{kinds_of, arities_of, Tabled, bit, pred_of, def_of, length_arities}
use Rattle.check_defines.specs.Bits.{power, room_two, marked}

-- the name p may have a definition with k parameters, c having been read before: it is not defined yet
unfoldable pub fresh : List ℕ → ℕ → ℕ → ℕ → ℕ → Bool
fresh L m p k c = pred_of m (kinds_of L) p && leb k 8 && ltb c 128 && not (def_of m (arities_of L) p k)

-- r says so, and it is marked then
pub record Defines (L : List ℕ) (m p k c : ℕ) (X : List ℕ) (r : Bool) : Type 0 where
  pub is : r ≡ fresh L m p k c
  pub table : r ≡ true → (q j : ℕ) → def_of m (arities_of X) q j ≡ ((eqb p q && eqb k j) || def_of m (arities_of L) q j)
  pub rest : Outside 20992 61970 L X

no_first : (a b c d : Bool) → a ≡ false → false ≡ (a && b && c && d)
no_first a b c d e = ap (λ (x : Bool). x && b && c && d) (sym e)

no_second : (a b c d : Bool) → b ≡ false → false ≡ (a && b && c && d)
no_second true b c d e = ap (λ (x : Bool). x && c && d) (sym e)
no_second false b c d e = refl

no_third : (a b c d : Bool) → c ≡ false → false ≡ (a && b && c && d)
no_third true true c d e = ap (λ (x : Bool). x && d) (sym e)
no_third true false c d e = refl
no_third false b c d e = refl

no_fourth : (a b c d : Bool) → d ≡ false → false ≡ (a && b && c && d)
no_fourth true true true d e = sym e
no_fourth true true false d e = refl
no_fourth true false c d e = refl
no_fourth false b c d e = refl

four : (a b c d : Bool) → a ≡ true → b ≡ true → c ≡ true → d ≡ true → true ≡ (a && b && c && d)
four a b c d e f g h = sym (ap₂ (λ (x y : Bool). x && y && c && d) e f ∙ ap₂ (λ (x y : Bool). x && y) g h)

module _ (L : List ℕ) (m p k c : ℕ) where
  refused : false ≡ fresh L m p k c → Defines L m p k c L false
  refused e = record { is = e; table = λ z. absurd (let y : ◌≡◌ {A = ℕ} 0 1 = ap (λ (b : Bool). elim b as (λ v. ℕ) [ false ↦ 0 | true ↦ 1 ]) z in omega arith); rest = record { before = refl; after = refl; long = refl } }

  pub not_a_name : pred_of m (kinds_of L) p ≡ false → Defines L m p k c L false
  unfolding fresh
  not_a_name e = refused (no_first (pred_of m (kinds_of L) p) (leb k 8) (ltb c 128) (not (def_of m (arities_of L) p k)) e)

  pub many_parameters : 8 < k → Defines L m p k c L false
  unfolding fresh
  many_parameters h = refused (no_second (pred_of m (kinds_of L) p) (leb k 8) (ltb c 128) (not (def_of m (arities_of L) p k)) (lt-leb k 8 h))

  pub many_definitions : 127 < c → Defines L m p k c L false
  unfolding fresh
  many_definitions h = refused (no_third (pred_of m (kinds_of L) p) (leb k 8) (ltb c 128) (not (def_of m (arities_of L) p k)) (le-ltb c 128 (omega arith)))

  pub defined_before : def_of m (arities_of L) p k ≡ true → Defines L m p k c L false
  unfolding fresh
  defined_before e = refused (no_fourth (pred_of m (kinds_of L) p) (leb k 8) (ltb c 128) (not (def_of m (arities_of L) p k)) (ap not e))

  -- a name that passes is one of the table
  pub within : pred_of m (kinds_of L) p ≡ true → p < m
  unfolding pred_of
  within e = ltb-true p m (left (ltb p m) _ e)
    where
      left : (a b : Bool) → a && b ≡ true → a ≡ true
      left true b z = refl
      left false b z = z

  bit_free : p < m → k ≤ 8 → def_of m (arities_of L) p k ≡ false → eqb (bit k (get_or (arities_of L) p 0)) 1 ≡ false
  unfolding def_of
  bit_free h g e = sym (ap₂ (λ (x y : Bool). x && (y && eqb (bit k (get_or (arities_of L) p 0)) 1)) (lt-ltb p m h) (le-leb k 8 g)) ∙ e

  pub can_mark : (a q : ℕ) → Tabled L m → p < m → k ≤ 8 → def_of m (arities_of L) p k ≡ false → Got (shorts (cut 20992 61970 L)) p 65536 a → q ≡ power k → CanSet 20992 61970 L (shorts (cut 20992 61970 L)) p 65536 (a + q)
  unfolding arities_of
  can_mark a q t h g e o z =
      let f : eqb (bit k a) 1 ≡ false = ap (λ (v : ℕ). eqb (bit k v) 1) o.is ∙ bit_free h g e in
      record { le = omega arith; fits = omega (arith, t.long); inside = omega (arith, h, t.names, length_arities t); small = subst (λ (v : ℕ). a + v < 65536) (sym z) (room_two k a g o.small f) }

  pub defines : (a q : ℕ) (X : List ℕ) → Tabled L m → pred_of m (kinds_of L) p ≡ true → k ≤ 8 → c < 128 → def_of m (arities_of L) p k ≡ false → Got (shorts (cut 20992 61970 L)) p 65536 a → q ≡ power k → Set2 20992 61970 L p (a + q) X → Defines L m p k c X true
  unfolding fresh arities_of
  defines a q X t u g d e o z s =
      let h = within u in
      record {
        is = four (pred_of m (kinds_of L) p) (leb k 8) (ltb c 128) (not (def_of m (arities_of L) p k)) u (le-leb k 8 g) (lt-ltb c 128 d) (ap not e);
        table = λ y. marked m p k (arities_of L) (arities_of X) (subst (λ (v : ℕ). Stored (arities_of L) p v (arities_of X)) (ap₂ (λ (x v : ℕ). x + v) o.is z) s.part) h (omega (arith, h, t.names, length_arities t)) g (bit_free h g e);
        rest = s.rest;
      }
