-- Nodes linked one after another. Assumes nothing.
use mathlib.Core.Path.{◌≡◌, ap, sym, ◌∙◌, subst}
use mathlib.Core.List.{List}
use Prim.Native.Nat.{ℕ, ◌+◌, ◌/◌, ◌<◌, ◌≤◌}
use native.Mathlib.Omega.{arith}
use native.Mathlib.Decide.{ℕ_discrete}
use lib.ListN.{length, get_or}
use Rattle.mem_numbers.specs.Stored.{Stored, stored_same, stored_other}
use Rattle.mem_parts.specs.Parts.{outside_then}
use Rattle.work_tables.specs.Tables.{Laid, laid_after}
use Rattle.check_nodetables.specs.Tables.{heads_of, nexts_of, Joined, PutHead, PutNext, length_heads, length_nexts}
use Rattle.check_links.specs.Links.{parent, Nodes, NoHeads, Linked}

pub linked_none : (N H S : List ℕ) → NoHeads H → Linked N H S 1
linked_none N H S z = record {
  head = λ p h. (omega (arith, z p), λ g. absurd (omega (arith, z p)));
  last = λ j a b. absurd (omega arith);
  below = λ i a b. absurd (omega arith);
  next = λ i j a b c d e. absurd (omega arith);
}

-- one node more: it becomes its parent's first child, what that was its next sibling
pub linked_more : {N H S H' S' : List ℕ} {i p h : ℕ} → Linked N H S i → 0 < i → i < length N → i < length S → p ≡ parent N i → p < length N → p < length H → h ≡ get_or H p 0 → Stored S i h S' → Stored H p i H' → Linked N H' S' (i + 1)
linked_more {N} {H} {S} {H'} {S'} {i} {p} {h} L i0 iN iS e pN pH g s t = record {
  head = λ q a. heads q a (ℕ_discrete q p);
  last = λ j a b. lasts j a (ℕ_discrete j i) b (ℕ_discrete (parent N j) p);
  below = λ j a b. belows j a b (ℕ_discrete j i);
  next = λ j k a b c d f. nexts j k a b c d f (ℕ_discrete j i);
}
  where
    at_p : get_or H' p 0 ≡ i
    at_p = stored_same 0 t pH

    at_i : get_or S' i 0 ≡ h
    at_i = stored_same 0 s iS

    heads : (q : ℕ) → q < length N → Dec (q ≡ p) → (get_or H' q 0 < i + 1) × (0 < get_or H' q 0 → parent N (get_or H' q 0) ≡ q)
    heads q a (yes z) =
        let w : get_or H' q 0 ≡ i = ap (λ (x : ℕ). get_or H' x 0) z ∙ at_p in
        (omega arith, λ x. ap (parent N) w ∙ sym e ∙ sym z)
    heads q a (no z) =
        let w : get_or H' q 0 ≡ get_or H q 0 = stored_other q 0 t z in
        let r = L.head q a in
        (omega (arith, r.0), λ x. ap (parent N) w ∙ r.1 (omega arith))

    lasts : (j : ℕ) → 0 < j → Dec (j ≡ i) → j < i + 1 → Dec (parent N j ≡ p) → j ≤ get_or H' (parent N j) 0
    lasts j a (yes z) b d = let w : get_or H' (parent N j) 0 ≡ i = ap (λ (x : ℕ). get_or H' (parent N x) 0) z ∙ ap (λ (x : ℕ). get_or H' x 0) (sym e) ∙ at_p in omega arith
    lasts j a (no z) b (yes y) = let w : get_or H' (parent N j) 0 ≡ i = ap (λ (x : ℕ). get_or H' x 0) y ∙ at_p in omega arith
    lasts j a (no z) b (no y) = let w : get_or H' (parent N j) 0 ≡ get_or H (parent N j) 0 = stored_other (parent N j) 0 t y in let v = L.last j a (omega arith) in omega arith

    belows : (j : ℕ) → 0 < j → j < i + 1 → Dec (j ≡ i) → (get_or S' j 0 < j) × (0 < get_or S' j 0 → parent N (get_or S' j 0) ≡ parent N j)
    belows j a b (yes z) =
        let w : get_or S' j 0 ≡ get_or H p 0 = ap (λ (x : ℕ). get_or S' x 0) z ∙ at_i ∙ g in
        let r = L.head p pN in
        (omega (arith, r.0), λ x. ap (parent N) w ∙ r.1 (omega arith) ∙ e ∙ ap (parent N) (sym z))
    belows j a b (no z) =
        let w : get_or S' j 0 ≡ get_or S j 0 = stored_other j 0 s z in
        let r = L.below j a (omega arith) in
        (omega (arith, r.0), λ x. ap (parent N) w ∙ r.1 (omega arith))

    nexts : (j k : ℕ) → 0 < j → j < i + 1 → 0 < k → k < j → parent N k ≡ parent N j → Dec (j ≡ i) → k ≤ get_or S' j 0
    nexts j k a b c d f (yes z) =
        let w : get_or S' j 0 ≡ get_or H p 0 = ap (λ (x : ℕ). get_or S' x 0) z ∙ at_i ∙ g in
        let v = L.last k c (omega arith) in
        let u : get_or H (parent N k) 0 ≡ get_or H p 0 = ap (λ (x : ℕ). get_or H x 0) (f ∙ ap (parent N) z ∙ sym e) in
        omega arith
    nexts j k a b c d f (no z) =
        let w : get_or S' j 0 ≡ get_or S j 0 = stored_other j 0 s z in
        let v = L.next j k a (omega arith) c d f in
        omega arith

-- The loop: the nodes below i of n are linked in the working slice X, which was L.
pub record Linking (N L : List ℕ) (n : ℕ) (X : List ℕ) (i : ℕ) : Type 0 where
  pub laid : Laid X
  pub low : 1 ≤ i
  pub high : i ≤ n
  pub linked : Linked N (heads_of X) (nexts_of X) i
  pub rest : Joined L X

pub linking_more : {N L X Y Z : List ℕ} {n i p h : ℕ} → Nodes N → n ≡ length N → Linking N L n X i → i < n → p ≡ get_or N i 0 / 256 → h ≡ get_or (heads_of X) p 0 → PutNext X i h Y → PutHead Y p i Z → Linking N L n Z (i + 1)
linking_more {N} {L} {X} {Y} {Z} {n} {i} {p} {h} K e I g f q s t =
    let low = I.low in
    let m = K.most in
    let b = K.rooted.lower i (omega arith) (omega arith) in
    let a = length_heads I.laid in
    let c = length_nexts I.laid in
    record {
      laid = laid_after (laid_after I.laid s.rest) t.rest;
      low = omega arith;
      high = omega arith;
      linked = linked_more I.linked (omega arith) (omega arith) (omega arith) f (omega arith) (omega arith) q (subst (λ (S : List ℕ). Stored (nexts_of X) i h S) (sym t.nexts) s.nexts) (subst (λ (H : List ℕ). Stored H p i (heads_of Z)) s.heads t.heads);
      rest = outside_then (outside_then I.rest s.rest) t.rest;
    }
