-- The heads of a program's definitions, found in its words and marked in the table of arities. Assumes nothing.
use Rattle.std.specs.Prelude.{◌≡◌, Option, None, Some, Bool, false, ◌&&◌, ◌||◌, length, get_or}
use Rattle.std.proofs.Math.Path.{refl, ap, ap₂, sym}
use Rattle.std.proofs.Common.{◌∙◌, subst, add-one, arith, drop-cons}
use mathlib.Core.List.{List, [], ◌∷◌}
use Rattle.std.proofs.Math.Bool.{true, not}
use Prim.Native.Nat.{ℕ, zero, suc, ◌+◌, ◌-◌, ◌≤◌, ◌<◌}
use Rattle.std.proofs.Math.Dec.{leb, ltb, eqb}
use Rattle.std.proofs.Math.ListN.{drop, drop_of_length-le}
use Rattle.akl.specs.Base.{any, size}
use Rattle.mem_words.specs.declared.Word.{Word}
use Rattle.mem_words.specs.declared.Word.TheVariants.{End, Free, Level, Num, Place, Inner, Bad}
use Rattle.mem_numbers.specs.Numbers.{shorts, zero_shorts}
use Rattle.mem_parts.specs.Parts.{cut, Outside, outside_then, Zeroed}
use Rattle.check_shapes.specs.Passed.{Headed, heads_from, heads, listed, heads_pass}
use Rattle.check_tables.specs.Tables.{kinds_of, arities_of, Tabled, bit, pred_of, def_of, tabled_after, kinds_before}
use Rattle.check_defines.specs.Defining.{fresh, Defines}

-- a word that is no number begins anew
pub is_other : (t : Word) → ((v : ℕ) → t ≡ Num v → ⊥) → (was : Bool) (p : ℕ) (l : List Word) → heads_from was p (t ∷ l) ≡ heads_from false 0 l
unfolding heads_from
is_other End n was p l = refl
is_other (Free x) n was p l = refl
is_other (Level x) n was p l = refl
is_other (Num v) n was p l = absurd (n v refl)
is_other (Place k) n was p l = refl
is_other (Inner s) n was p l = refl
is_other Bad n was p l = refl

-- whether the word before was a number, and which
abbrev pub was_number : Option ℕ → Bool
was_number None = false
was_number (Some p) = true

abbrev pub number_before : Option ℕ → ℕ
number_before None = 0
number_before (Some p) = p

-- what was found, and what is marked where all of it passes
pub record Filled (L : List ℕ) (m : ℕ) (W : List Word) (X : List ℕ) (r : Bool) : Type 0 where
  pub is : r ≡ heads_pass (pred_of m (kinds_of L)) [] (heads W)
  pub table : r ≡ true → (q j : ℕ) → def_of m (arities_of X) q j ≡ listed (heads W) q j
  pub rest : Outside 20992 61970 L X

pub record CanFill (L : List ℕ) (m : ℕ) (W : List Word) : Type 0 where
  pub tables : Tabled L m
  pub short : length W ≤ 40960

pub record CanMark (L : List ℕ) (m : ℕ) (W : List Word) : Type 0 where
  pub can : CanFill L m W
  pub blank : (q j : ℕ) → def_of m (arities_of L) q j ≡ false

-- i words were read, c heads found; the word before was the number p if `was` is true
pub record Filling (L : List ℕ) (m : ℕ) (W : List Word) (X : List ℕ) (i c : ℕ) (was : Bool) (p : ℕ) : Type 0 where
  pub can : CanFill L m W
  pub rest : Outside 20992 61970 L X
  pub read : i ≤ length W
  pub few : c ≤ i
  pub seen : List Headed
  pub count : size seen ≡ c
  pub marks : (q j : ℕ) → def_of m (arities_of X) q j ≡ listed seen q j
  pub same : heads_pass (pred_of m (kinds_of L)) seen (heads_from was p (drop i W)) ≡ heads_pass (pred_of m (kinds_of L)) [] (heads W)
  pub all : (q j : ℕ) → (listed seen q j || listed (heads_from was p (drop i W)) q j) ≡ listed (heads W) q j

or_false : (a : Bool) → (a || false) ≡ a
or_false true = refl
or_false false = refl

or_move : (a b c : Bool) → ((b || a) || c) ≡ (a || (b || c))
or_move true true c = refl
or_move true false c = refl
or_move false true c = refl
or_move false false c = refl

untrue : {A : Type 0} → false ≡ true → A
untrue z = absurd (let y : ◌≡◌ {A = ℕ} 0 1 = ap (λ (b : Bool). elim b as (λ v. ℕ) [ false ↦ 0 | true ↦ 1 ]) z in omega arith)

listed_more : (h : Headed) (hs : List Headed) (q j : ℕ) → listed (h ∷ hs) q j ≡ ((eqb h.0 q && eqb h.1 j) || listed hs q j)
unfolding listed any
listed_more h hs q j = refl

listed_none : (q j : ℕ) → listed [] q j ≡ false
unfolding listed any
listed_none q j = refl

module _ (L : List ℕ) (m : ℕ) (W : List Word) where
  pub filling_none : CanMark L m W → Filling L m W L 0 0 false 0
  unfolding heads listed any size
  filling_none c = record {
    can = c.can;
    rest = record { before = refl; after = refl; long = refl };
    read = omega arith;
    few = omega arith;
    seen = [];
    count = refl;
    marks = c.blank;
    same = refl;
    all = λ q j. refl;
  }

  -- the word before was the number p
  pub filling_named : {X : List ℕ} {i c : ℕ} (o : Option ℕ) (p : ℕ) → o ≡ Some p → Filling L m W X i c (was_number o) (number_before o) → Filling L m W X i c true p
  filling_named {X} {i} {c} o p e F = subst (λ (z : Option ℕ). Filling L m W X i c (was_number z) (number_before z)) e F

  -- the same of what is equal
  pub filling_as : {X Y : List ℕ} {i c d : ℕ} {o q : Option ℕ} → Y ≡ X → d ≡ c → q ≡ o → Filling L m W X i c (was_number o) (number_before o) → Filling L m W Y i d (was_number q) (number_before q)
  filling_as {X} {Y} {i} {c} {d} {o} {q} e f g F =
      subst (λ (z : List ℕ). Filling L m W z i d (was_number q) (number_before q)) (sym e)
      (subst (λ (z : ℕ). Filling L m W X i z (was_number q) (number_before q)) (sym f)
      (subst (λ (z : Option ℕ). Filling L m W X i c (was_number z) (number_before z)) (sym g) F))

  module _ (X : List ℕ) (i c : ℕ) (was : Bool) (p : ℕ) (F : Filling L m W X i c was p) where
    pub tables_now : Tabled X m
    tables_now = tabled_after F.can.tables F.rest

    -- the next word
    next : (t : Word) → i < length W → t ≡ get_or W i Bad → heads_from was p (drop i W) ≡ heads_from was p (t ∷ drop (i + 1) W)
    next t b e = ap (λ (l : List Word). heads_from was p l) (drop-cons W i Bad b ∙ ap₂ (λ (u : Word) (k : ℕ). u ∷ drop k W) (sym e) (sym (add-one i)))

    -- nothing found: the words go on from what was read last
    goes_on : (b : i < length W) (now : Bool) (k : ℕ) → heads_from was p (drop i W) ≡ heads_from now k (drop (i + 1) W) → Filling L m W X (i + 1) c now k
    goes_on b now k e = record {
      can = F.can;
      rest = F.rest;
      read = omega (arith, b);
      few = omega (arith, F.few);
      seen = F.seen;
      count = F.count;
      marks = F.marks;
      same = ap (heads_pass (pred_of m (kinds_of L)) F.seen) (sym e) ∙ F.same;
      all = λ q j. ap (λ (l : List Headed). listed F.seen q j || listed l q j) (sym e) ∙ F.all q j;
    }

    pub filling_other : (t : Word) → i < length W → t ≡ get_or W i Bad → ((v : ℕ) → t ≡ Num v → ⊥) → Filling L m W X (i + 1) c false 0
    filling_other t b e n = goes_on b false 0 (next t b e ∙ is_other t n was p (drop (i + 1) W))

    pub filling_first : (t : Word) (k : ℕ) → i < length W → t ≡ get_or W i Bad → t ≡ Num k → was ≡ false → Filling L m W X (i + 1) c true k
    unfolding heads_from
    filling_first t k b e n f =
        goes_on b true k (next t b e ∙ ap₂ (λ (x : Bool) (u : Word). heads_from x p (u ∷ drop (i + 1) W)) f n)

    module _ (t : Word) (k : ℕ) (b : i < length W) (e : t ≡ get_or W i Bad) (n : t ≡ Num k) (f : was ≡ true) (Y : List ℕ) (r : Bool) (D : Defines X m p k c Y r) where
      found : heads_from was p (drop i W) ≡ (p, k) ∷ heads_from true k (drop (i + 1) W)
      unfolding heads_from
      found = next t b e ∙ ap₂ (λ (x : Bool) (u : Word). heads_from x p (u ∷ drop (i + 1) W)) f n

      -- what the test says of the heads seen
      tests : Bool
      tests = pred_of m (kinds_of L) p && leb k 8 && ltb (size F.seen) 128 && not (listed F.seen p k)

      tested : r ≡ tests
      unfolding fresh tests
      tested =
          let z : kinds_of X ≡ kinds_of L = kinds_before 20992 (omega arith) (omega arith) F.can.tables F.rest in
          D.is
          ∙ ap₂ (λ (B : List ℕ) (v : ℕ). pred_of m B p && leb k 8 && ltb v 128 && not (def_of m (arities_of X) p k)) z (sym F.count)
          ∙ ap (λ (v : Bool). pred_of m (kinds_of L) p && leb k 8 && ltb (size F.seen) 128 && not v) (F.marks p k)

      passes : (tests && heads_pass (pred_of m (kinds_of L)) ((p, k) ∷ F.seen) (heads_from true k (drop (i + 1) W))) ≡ heads_pass (pred_of m (kinds_of L)) [] (heads W)
      unfolding heads_pass tests
      passes = ap (heads_pass (pred_of m (kinds_of L)) F.seen) (sym found) ∙ F.same

      pub filling_stop : r ≡ false → Filled L m W Y false
      filling_stop q = record {
        is = ap (λ (v : Bool). v && heads_pass (pred_of m (kinds_of L)) ((p, k) ∷ F.seen) (heads_from true k (drop (i + 1) W))) (sym q ∙ tested) ∙ passes;
        table = λ z. untrue z;
        rest = outside_then F.rest D.rest;
      }

      pub filling_head : r ≡ true → Filling L m W Y (i + 1) (c + 1) true k
      unfolding size
      filling_head q =
          let z : size ((p, k) ∷ F.seen) ≡ c + 1 = ap suc F.count ∙ sym (add-one c) in
          record {
            can = F.can;
            rest = outside_then F.rest D.rest;
            read = omega (arith, b);
            few = omega (arith, F.few);
            seen = (p, k) ∷ F.seen;
            count = z;
            marks = λ s j. D.table q s j ∙ ap (λ (v : Bool). (eqb p s && eqb k j) || v) (F.marks s j) ∙ sym (listed_more (p, k) F.seen s j);
            same = ap (λ (v : Bool). v && heads_pass (pred_of m (kinds_of L)) ((p, k) ∷ F.seen) (heads_from true k (drop (i + 1) W))) (sym q ∙ tested) ∙ passes;
            all = λ s j.
                ap (λ (v : Bool). v || listed (heads_from true k (drop (i + 1) W)) s j) (listed_more (p, k) F.seen s j)
                ∙ or_move (listed F.seen s j) (eqb p s && eqb k j) (listed (heads_from true k (drop (i + 1) W)) s j)
                ∙ ap (λ (v : Bool). listed F.seen s j || v) (sym (listed_more (p, k) (heads_from true k (drop (i + 1) W)) s j))
                ∙ ap (λ (l : List Headed). listed F.seen s j || listed l s j) (sym found)
                ∙ F.all s j;
          }

    pub filling_end : length W ≤ i → Filled L m W X true
    unfolding heads_from heads_pass
    filling_end b =
        let d : drop i W ≡ [] = drop_of_length-le W b in
        record {
          is = sym (ap (λ (l : List Word). heads_pass (pred_of m (kinds_of L)) F.seen (heads_from was p l)) d) ∙ F.same;
          table = λ z q j. F.marks q j ∙ sym (or_false (listed F.seen q j)) ∙ ap (λ (v : Bool). listed F.seen q j || v) (sym (listed_none q j)) ∙ sym (ap (λ (l : List Word). listed F.seen q j || listed (heads_from was p l) q j) d) ∙ F.all q j;
          rest = F.rest;
        }

-- ---------------------------------------------------------------------------------------------
-- The table made zero: nothing is defined.

zero_bit : (j : ℕ) → bit j 0 ≡ 0
unfolding bit
zero_bit zero = refl
zero_bit (suc j) = zero_bit j

neither : (a b c : Bool) → c ≡ false → (a && (b && c)) ≡ false
neither true true c e = e
neither true false c e = refl
neither false b c e = refl

pub can_mark : {L X : List ℕ} {m : ℕ} {W : List Word} → CanFill L m W → Zeroed 20992 61970 L X → CanMark X m W
unfolding def_of arities_of
can_mark {L} {X} {m} {W} c z = record {
  can = record { tables = tabled_after c.tables z.rest; short = c.short };
  blank = λ q j.
      let e : get_or (shorts (cut 20992 61970 X)) q 0 ≡ 0 = ap (λ (l : List ℕ). get_or (shorts l) q 0) z.part ∙ zero_shorts (61970 - 20992) q in
      neither (ltb q m) (leb j 8) (eqb (bit j (get_or (shorts (cut 20992 61970 X)) q 0)) 1) (ap (λ (v : ℕ). eqb v 1) (ap (bit j) e ∙ zero_bit j));
}

pub filled : {L Y X : List ℕ} {m : ℕ} {W : List Word} {r : Bool} → CanFill L m W → Zeroed 20992 61970 L Y → Filled Y m W X r → Filled L m W X r
filled {L} {Y} {X} {m} {W} c z f =
    let k : kinds_of Y ≡ kinds_of L = kinds_before 20992 (omega arith) (omega arith) c.tables z.rest in
    record { is = f.is ∙ ap (λ (B : List ℕ). heads_pass (pred_of m B) [] (heads W)) k; table = f.table; rest = outside_then z.rest f.rest }
