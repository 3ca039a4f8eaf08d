-- A bracket found backwards from its End is the one that closes there. For any words. Assumes nothing.
use Rattle.std.specs.Prelude.{◌≡◌, refl, Bool, true, false, List, ℕ, suc, ◌+◌, ◌-◌, ◌<◌, ◌≤◌, length, get_or, drop}
use Rattle.std.proofs.Common.{ap, sym, ◌∙◌, add-one, arith}
use Rattle.mem_words.specs.declared.Word.{Word}
use Rattle.mem_words.specs.declared.Word.TheVariants.{End, Free, Level, Num, Place, Inner, Bad}
use Rattle.rule_words.specs.Scans.{closes, deeper, upto, close, opens, higher, up}
use Rattle.rule_words.proofs.Balance.{Leaf, Opening, a_free, a_level, a_num, a_place, an_inner}
use Rattle.rule_words.proofs.Loops.{close_inside, upto_hit, upto_on, up_on, up_zero}

-- an End stands at c
pub record Ends (W : List Word) (c : ℕ) : Type 0 where
  pub inside : c < length W
  pub is : closes (get_or W c Bad) 0 ≡ true

-- The bracket that closes at c opens at r, and the one around it is the one that is open behind it; or r is c, and none is open.
pub record Begun (W : List Word) (c r : ℕ) : Type 0 where
  pub within : r ≤ c
  pub shut : r < c → close W r ≡ c
  pub on : r < c → up (c + 1) W 0 ≡ up r W 0
  pub none : r ≡ c → up (c + 1) W 0 ≡ 0

-- The scan back from c stands at j, with d brackets closed on the way: the scan forwards from there, with d open, ends at c.
pub record Back (W : List Word) (c j d : ℕ) : Type 0 where
  pub before : j ≤ c
  pub few : d + j ≤ c
  pub inside : c < length W
  pub shut : j + upto (drop j W) d ≡ c
  pub on : up (c + 1) W 0 ≡ up j W (suc d)

untrue : {A : Type 0} → false ≡ true → A
untrue e = absurd (let z : ◌≡◌ {A = ℕ} 0 1 = cc in omega arith)

-- the three kinds of words by the two tests
end_is : (w : Word) → closes w 0 ≡ true → w ≡ End
end_is End e = refl
end_is (Free v) e = untrue e
end_is (Level v) e = untrue e
end_is (Num v) e = untrue e
end_is (Place k) e = untrue e
end_is (Inner s) e = untrue e
end_is Bad e = untrue e

opening_is : (w : Word) → opens w 0 ≡ true → Opening w
opening_is End e = untrue e
opening_is (Free v) e = untrue e
opening_is (Level v) e = untrue e
opening_is (Num v) e = untrue e
opening_is (Place k) e = a_place k
opening_is (Inner s) e = an_inner s
opening_is Bad e = untrue e

pub leaf_is : (w : Word) → opens w 0 ≡ false → closes w 0 ≡ false → Leaf w
leaf_is End o e = untrue (sym e)
leaf_is (Free v) o e = a_free v
leaf_is (Level v) o e = a_level v
leaf_is (Num v) o e = a_num v
leaf_is (Place k) o e = untrue (sym o)
leaf_is (Inner s) o e = untrue (sym o)
leaf_is Bad o e = record { closes_not = λ d. refl; deep = λ d. refl; opens_not = λ d. refl; high = λ d. refl }

pub back_none : (W : List Word) (c : ℕ) → Ends W c → Back W c c 0
back_none W c h =
    let p : c + 1 - 1 ≡ c = omega arith in
    let w : get_or W c Bad ≡ End = end_is (get_or W c Bad) h.is in
    record {
      before = omega arith;
      few = omega arith;
      inside = h.inside;
      shut = omega (arith, upto_hit W c 0 (get_or W c Bad) true h.inside refl (sym h.is) refl);
      on = up_on W (c + 1) 0 End false (omega arith) (sym (ap (λ (k : ℕ). get_or W k Bad) p ∙ w)) refl refl ∙ ap (λ (k : ℕ). up k W 1) p;
    }

-- one word more, where the scan forwards comes from e to d over it
back_step : (W : List Word) (c j d e : ℕ) (w : Word) → Back W c j d → 0 < j → w ≡ get_or W (j - 1) Bad → closes w e ≡ false → deeper w e ≡ d → opens w (suc d) ≡ false → higher w (suc d) ≡ suc e → e + (j - 1) ≤ c → Back W c (j - 1) e
back_step W c j d e w b h g p q r s f =
    let t : j - 1 + 1 ≡ j = omega arith in
    record {
      before = omega (arith, b.before);
      few = f;
      inside = b.inside;
      shut = omega (arith, b.shut, upto_on W (j - 1) e d w false (omega (arith, b.before, b.inside)) g (sym p) refl (sym q), ap (λ (k : ℕ). upto (drop k W) d) t);
      on = b.on ∙ up_on W j (suc d) w false h g (sym r) refl ∙ ap (up (j - 1) W) s;
    }

pub back_end : (W : List Word) (c j d : ℕ) (w : Word) (x : Bool) → Back W c j d → 0 < j → w ≡ get_or W (j - 1) Bad → x ≡ closes w 0 → x ≡ true → Back W c (j - 1) (d + 1)
back_end W c j d w x b h g p z =
    let k : End ≡ get_or W (j - 1) Bad = sym (end_is w (sym p ∙ z)) ∙ g in
    let n : d + 1 ≡ suc d = add-one d in
    back_step W c j d (d + 1) End b h k (ap (closes End) n) (omega arith) refl (omega arith) (omega (arith, b.few))

pub back_opening : (W : List Word) (c j d : ℕ) (w : Word) (x : Bool) → Back W c j d → 0 < j → w ≡ get_or W (j - 1) Bad → x ≡ opens w 0 → x ≡ true → (d ≡ 0 → ⊥) → Back W c (j - 1) (d - 1)
back_opening W c j d w x b h g p z n =
    let o = opening_is w (sym p ∙ z) in
    let m : suc (d - 1) ≡ d = omega (arith, n) in
    back_step W c j d (d - 1) w b h g (o.closes_not (d - 1)) (o.deep (d - 1) ∙ m) (o.opens_not d) (o.high d ∙ sym m) (omega (arith, b.few))

pub back_other : (W : List Word) (c j d : ℕ) (w : Word) (x y : Bool) → Back W c j d → 0 < j → w ≡ get_or W (j - 1) Bad → x ≡ opens w 0 → x ≡ false → y ≡ closes w 0 → y ≡ false → Back W c (j - 1) d
back_other W c j d w x y b h g p z q v =
    let l = leaf_is w (sym p ∙ z) (sym q ∙ v) in
    back_step W c j d d w b h g (l.closes_not d) (l.deep d) (l.opens_not (suc d)) (l.high (suc d)) (omega (arith, b.few))

-- the opening word with all others opened: the bracket's
pub back_begun : (W : List Word) (c j d : ℕ) (w : Word) (x : Bool) → Back W c j d → 0 < j → w ≡ get_or W (j - 1) Bad → x ≡ opens w 0 → x ≡ true → d ≡ 0 → Begun W c (j - 1)
back_begun W c j d w x b h g p z n =
    let o = opening_is w (sym p ∙ z) in
    let t : j - 1 + 1 ≡ j = omega arith in
    let u : up j W 1 ≡ up (j - 1) W 0 = up_on W j 1 w false h g (sym (o.opens_not 0)) refl ∙ ap (up (j - 1) W) (o.high 0) in
    let s : j + upto (drop j W) 0 ≡ c = ap (λ (k : ℕ). j + upto (drop j W) k) (sym n) ∙ b.shut in
    record {
      within = omega (arith, b.before);
      shut = λ l. omega (arith, close_inside W (j - 1) (omega (arith, b.before, b.inside)), ap (λ (k : ℕ). upto (drop k W) 0) t, s);
      on = λ l. b.on ∙ ap (λ (k : ℕ). up j W (suc k)) n ∙ u;
      none = λ e. absurd (omega (arith, b.before, e, h));
    }

-- no word is left: nothing is around it
pub back_past : (W : List Word) (c j d : ℕ) → Back W c j d → j ≡ 0 → Begun W c c
back_past W c j d b e = record {
  within = omega arith;
  shut = λ l. absurd (omega arith);
  on = λ l. absurd (omega arith);
  none = λ l. b.on ∙ ap (λ (k : ℕ). up k W (suc d)) e ∙ up_zero W (suc d);
}
