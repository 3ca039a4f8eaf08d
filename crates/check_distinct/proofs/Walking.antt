-- Children of one parent met one after another, and parents one after another. Assumes nothing.
use mathlib.Core.Path.{◌≡◌, refl, ap, sym, ◌∙◌, subst}
use mathlib.Core.List.{List}
use mathlib.Core.Bool.{Bool, true, false}
use Prim.Native.Nat.{ℕ, ◌+◌, ◌/◌, ◌%◌, ◌<◌, ◌≤◌}
use native.Mathlib.Omega.{arith}
use native.Mathlib.Decide.{ℕ_discrete, dec_lt}
use lib.ListN.{length, get_or}
use Rattle.mem_numbers.specs.Stored.{Stored, stored_same, stored_other}
use Rattle.mem_parts.specs.Parts.{outside_then}
use Rattle.work_tables.specs.Tables.{Laid, laid_after}
use Rattle.check_nodetables.specs.Tables.{heads_of, nexts_of, stamps_of, Stamped, PutStamp, outside_same, length_stamps, stamped_heads, stamped_nexts}
use Rattle.check_links.specs.Links.{parent, Nodes, Linked}
use Rattle.check_distinct.specs.Apart.{byte, Apart, Child, Differ, AtMost, NoStamps, Walks}

-- a child that has this byte
pub record Bearer (N : List ℕ) (p q x : ℕ) : Type 0 where
  pub node : ℕ
  pub child : Child N p q node
  pub byte : get_or N node 0 % 256 ≡ x

-- The children of p behind q were met: their bytes have the stamp, and no others.
pub record Met (N : List ℕ) (p q : ℕ) (T : List ℕ) : Type 0 where
  pub at : q < length N
  pub own : 0 < q → parent N q ≡ p
  pub seen : (j : ℕ) → Child N p q j → get_or T (byte N j) 0 ≡ p + 1
  pub borne : (x : ℕ) → get_or T x 0 ≡ p + 1 → Bearer N p q x
  pub differ : Differ N p q
  pub most : AtMost T (p + 1)

-- at first none is
pub met_none : {N H S T : List ℕ} {p q : ℕ} → Nodes N → Linked N H S (length N) → p < length N → AtMost T p → q ≡ get_or H p 0 → Met N p q T
met_none {N} {H} {S} {T} {p} {q} K L h m e = record {
  at = omega (arith, (L.head p h).0);
  own = λ g. ap (parent N) e ∙ (L.head p h).1 (omega arith);
  seen = λ j c. absurd (none j c);
  borne = λ x y. absurd (omega (arith, m x));
  differ = λ i j c d f. absurd (none i c);
  most = λ x. omega (arith, m x);
}
  where
    none : (j : ℕ) → Child N p q j → ⊥
    none j c =
        let a = L.last j c.some c.node in
        let b : get_or H (parent N j) 0 ≡ get_or H p 0 = ap (λ (x : ℕ). get_or H x 0) c.parent in
        let d = c.behind in
        omega arith

-- the next child is met
pub met_more : {N H S T T' : List ℕ} {p q x y : ℕ} → Linked N H S (length N) → Met N p q T → 0 < q → x ≡ byte N q → x < length T → (get_or T x 0 ≡ p + 1 → ⊥) → Stored T x (p + 1) T' → y ≡ get_or S q 0 → Met N p y T'
met_more {N} {H} {S} {T} {T'} {p} {q} {x} {y} L M q0 e xT new s g =
    let at = M.at in
    record {
      at = omega (arith, (L.below q q0 at).0);
      own = λ h. ap (parent N) g ∙ (L.below q q0 at).1 (omega arith) ∙ M.own q0;
      seen = λ j c. stamped j c (ℕ_discrete j q) (ℕ_discrete (byte N j) x);
      borne = λ z h. bearer z h (ℕ_discrete z x);
      differ = λ i j c d f. apart i j c d f (ℕ_discrete i q) (ℕ_discrete j q);
      most = λ z. low z (ℕ_discrete z x);
    }
  where
    here : get_or T' x 0 ≡ p + 1
    here = stored_same 0 s xT

    -- behind y is q, or behind q
    further : (j : ℕ) → Child N p y j → (j ≡ q → ⊥) → Child N p q j
    further j c n =
        let k : j < q → j ≤ get_or S q 0 = λ h. L.next q j q0 M.at c.some h (c.parent ∙ sym (M.own q0)) in
        record { some = c.some; node = c.node; parent = c.parent; behind = after j c.behind n k }
      where
        after : (j : ℕ) → y < j → (j ≡ q → ⊥) → (j < q → j ≤ get_or S q 0) → q < j
        after j b n k = go (dec_lt q j)
          where
            go : Dec (q < j) → q < j
            go (yes h) = h
            go (no h) = absurd (let z = k (omega arith) in omega arith)

    stamped : (j : ℕ) → Child N p y j → Dec (j ≡ q) → Dec (byte N j ≡ x) → get_or T' (byte N j) 0 ≡ p + 1
    stamped j c d (yes b) = ap (λ (z : ℕ). get_or T' z 0) b ∙ here
    stamped j c (yes a) (no b) = absurd (b (ap (byte N) a ∙ sym e))
    stamped j c (no a) (no b) = stored_other (byte N j) 0 s b ∙ M.seen j (further j c a)

    wider : (j : ℕ) → Child N p q j → Child N p y j
    wider j c = record { some = c.some; node = c.node; parent = c.parent; behind = omega (arith, g, c.behind, (L.below q q0 M.at).0) }

    itself : Child N p y q
    itself = record { some = q0; node = M.at; parent = M.own q0; behind = omega (arith, g, (L.below q q0 M.at).0) }

    bearer : (z : ℕ) → get_or T' z 0 ≡ p + 1 → Dec (z ≡ x) → Bearer N p y z
    bearer z h (yes a) = record { node = q; child = itself; byte = sym e ∙ sym a }
    bearer z h (no a) = let b = M.borne z (sym (stored_other z 0 s a) ∙ h) in record { node = b.node; child = wider b.node b.child; byte = b.byte }

    -- a byte that is new is no other child's
    alone : (j : ℕ) → Child N p q j → byte N j ≡ byte N q → ⊥
    alone j c f = new (ap (λ (z : ℕ). get_or T z 0) (e ∙ sym f) ∙ M.seen j c)

    apart : (i j : ℕ) → Child N p y i → Child N p y j → byte N i ≡ byte N j → Dec (i ≡ q) → Dec (j ≡ q) → i ≡ j
    apart i j c d f (yes a) (yes b) = a ∙ sym b
    apart i j c d f (yes a) (no b) = absurd (alone j (further j d b) (sym f ∙ ap (byte N) a))
    apart i j c d f (no a) (yes b) = absurd (alone i (further i c a) (f ∙ ap (byte N) b))
    apart i j c d f (no a) (no b) = M.differ i j (further i c a) (further j d b) f

    low : (z : ℕ) → Dec (z ≡ x) → get_or T' z 0 ≤ p + 1
    low z (yes a) = omega (arith, ap (λ (k : ℕ). get_or T' k 0) a ∙ here)
    low z (no a) = omega (arith, stored_other z 0 s a, M.most z)

-- a byte that has the stamp already is that of another child
pub met_twice : {N T : List ℕ} {p q x : ℕ} → Met N p q T → 0 < q → x ≡ byte N q → get_or T x 0 ≡ p + 1 → Apart N → ⊥
met_twice {N} {T} {p} {q} {x} M q0 e t A =
    let b = M.borne x t in
    let c = b.child in
    let u = b.byte in
    let v = c.parent in
    let w = M.own q0 in
    let z = A b.node q c.some c.node q0 M.at (omega arith) in
    omega (arith, z, c.behind)

-- The loop over the children of p, in the working slice X, which was L.
pub record Walking (N L : List ℕ) (p : ℕ) (X : List ℕ) (q : ℕ) : Type 0 where
  pub laid : Laid X
  pub linked : Linked N (heads_of X) (nexts_of X) (length N)
  pub met : Met N p q (stamps_of X)
  pub rest : Stamped L X

pub linked_kept : {N X Y : List ℕ} {k : ℕ} → Laid X → Stamped X Y → Linked N (heads_of X) (nexts_of X) k → Linked N (heads_of Y) (nexts_of Y) k
linked_kept {N} {X} {Y} {k} h s L = subst (λ (S : List ℕ). Linked N (heads_of Y) S k) (sym (stamped_nexts h s)) (subst (λ (H : List ℕ). Linked N H (nexts_of X) k) (sym (stamped_heads h s)) L)

pub walking_none : {N L : List ℕ} {p q : ℕ} → Laid L → Nodes N → Linked N (heads_of L) (nexts_of L) (length N) → p < length N → AtMost (stamps_of L) p → q ≡ get_or (heads_of L) p 0 → Walking N L p L q
walking_none h K L l m e = record { laid = h; linked = L; met = met_none K L l m e; rest = outside_same }

pub walking_more : {N L X Y : List ℕ} {p q x y : ℕ} → Walking N L p X q → 0 < q → x ≡ byte N q → (get_or (stamps_of X) x 0 ≡ p + 1 → ⊥) → PutStamp X x (p + 1) Y → y ≡ get_or (nexts_of Y) q 0 → Walking N L p Y y
walking_more {N} {L} {X} {Y} {p} {q} {x} {y} W q0 e new s g =
    let n = length_stamps W.laid in
    record {
      laid = laid_after W.laid s.rest;
      linked = linked_kept W.laid s.rest W.linked;
      met = met_more W.linked W.met q0 e (omega arith) new s.stamps (g ∙ ap (λ (S : List ℕ). get_or S q 0) (stamped_nexts W.laid s.rest));
      rest = outside_then W.rest s.rest;
    }

-- The loop over the parents: the children of those below p have different bytes.
abbrev pub DifferBelow : List ℕ → ℕ → Type 0
DifferBelow N p = (o : ℕ) → o < p → Differ N o 0

pub record Going (N L : List ℕ) (n : ℕ) (X : List ℕ) (p : ℕ) : Type 0 where
  pub laid : Laid X
  pub linked : Linked N (heads_of X) (nexts_of X) (length N)
  pub high : p ≤ n
  pub differ : DifferBelow N p
  pub most : AtMost (stamps_of X) p
  pub rest : Stamped L X

pub going_none : {N L : List ℕ} {n : ℕ} → Laid L → Linked N (heads_of L) (nexts_of L) (length N) → NoStamps (stamps_of L) → Going N L n L 0
going_none h L z = record { laid = h; linked = L; high = omega arith; differ = λ o g. absurd (omega arith); most = λ x. omega (arith, z x); rest = outside_same }

pub going_more : {N L X Y : List ℕ} {n p : ℕ} → Going N L n X p → p < n → Differ N p 0 × AtMost (stamps_of Y) (p + 1) → Stamped X Y → Going N L n Y (p + 1)
going_more {N} {L} {X} {Y} {n} {p} G h d s = record {
  laid = laid_after G.laid s;
  linked = linked_kept G.laid s G.linked;
  high = omega arith;
  differ = λ o g. go o g (ℕ_discrete o p);
  most = d.1;
  rest = outside_then G.rest s;
}
  where
    go : (o : ℕ) → o < p + 1 → Dec (o ≡ p) → Differ N o 0
    go o g (yes e) = subst (λ (k : ℕ). Differ N k 0) (sym e) d.0
    go o g (no e) = G.differ o (omega arith)

-- all parents are nodes
pub all_apart : {N : List ℕ} (p : ℕ) → Nodes N → length N ≤ p → DifferBelow N p → Apart N
all_apart {N} p K h D i j a b c d e =
    let l = K.rooted.lower i a b in
    let m = K.rooted.lower j c d in
    D (parent N i) (omega arith) i j (record { some = a; node = b; parent = refl; behind = a }) (record { some = c; node = d; parent = ap (λ (x : ℕ). x / 256) (sym e); behind = c }) (ap (λ (x : ℕ). x % 256) e)

-- the answers of a walk, by their equations
pub walked_yes : (N T : List ℕ) (p : ℕ) (r : Bool) → r ≡ true → Walks N p T r → Differ N p 0 × AtMost T (p + 1)
walked_yes N T p r e w = subst (Walks N p T) e w

pub walked_no : (N T : List ℕ) (p : ℕ) (r : Bool) → r ≡ false → Walks N p T r → Apart N → ⊥
walked_no N T p r e w = subst (Walks N p T) e w

-- a next sibling is lower, so that the walk ends
pub walking_less : {N L X Y : List ℕ} {p q x v y : ℕ} → Walking N L p X q → 0 < q → PutStamp X x v Y → y ≡ get_or (nexts_of Y) q 0 → y < q
walking_less {N} {L} {X} {Y} {p} {q} {x} {v} {y} W q0 s g =
    let a = (W.linked.below q q0 W.met.at).0 in
    let b : y ≡ get_or (nexts_of X) q 0 = g ∙ ap (λ (S : List ℕ). get_or S q 0) (stamped_nexts W.laid s.rest) in
    omega arith

pub walking_end : {N L X : List ℕ} {p q : ℕ} → Walking N L p X q → q ≡ 0 → Differ N p 0 × AtMost (stamps_of X) (p + 1)
walking_end {N} {L} {X} {p} {q} W e = (subst (Differ N p) e W.met.differ, W.met.most)
