-- The scan back for the box around a position, which goes over whole brackets and notes the last two. Assumes nothing.
use Rattle.std.specs.Prelude.{◌≡◌, refl, Bool, true, false, List, ℕ, ◌+◌, ◌-◌, ◌<◌, ◌≤◌, length, get_or}
use Rattle.std.proofs.Common.{ap, sym, ◌∙◌, arith}
use Rattle.mem_words.specs.declared.Word.{Word}
use Rattle.mem_words.specs.declared.Word.TheVariants.{Bad}
use Rattle.rule_words.specs.Scans.{closes, close, opens, up, around}
use Rattle.rule_words.proofs.Loops.{close_past, close_le, up_on, up_hit, up_zero, around_is}
use Rattle.rule_inbox.specs.Found.{Within, Found, Noted}
use Rattle.rule_inbox.specs.Backwards.{Ends, Begun, leaf_is}

-- the scan back from i stands at j
pub record Looked (W : List Word) (i j o1 c1 o2 c2 : ℕ) : Type 0 where
  pub before : j ≤ i
  pub on : up j W 0 ≡ up i W 0
  pub noted : Noted W o1 c1 o2 c2

pub looked_none : (W : List Word) (i n : ℕ) → n ≡ length W → Looked W i i n n n n
looked_none W i n e =
    let c : n ≡ close W n = e ∙ sym (close_past W n (omega arith)) in
    record { before = omega arith; on = refl; noted = record { first = c; second = c } }

pub ends_at : (W : List Word) (j : ℕ) (w : Word) (y : Bool) → j < length W → w ≡ get_or W j Bad → y ≡ closes w 0 → y ≡ true → Ends W j
ends_at W j w y h g q v = record { inside = h; is = ap (λ (x : Word). closes x 0) (sym g) ∙ sym q ∙ v }

-- over a bracket, and over a word in none
pub looked_over : {W : List Word} {i j o o1 c1 o2 c2 : ℕ} → Looked W i j o1 c1 o2 c2 → 0 < j → Begun W (j - 1) o → (o ≡ j - 1 → ⊥) → Looked W i o o (j - 1) o1 c1
looked_over {W} {i} {j} {o} l h b n =
    let t : j - 1 + 1 ≡ j = omega arith in
    let m : o < j - 1 = omega (arith, b.within, n) in
    record {
      before = omega (arith, l.before, b.within);
      on = sym (b.on m) ∙ ap (λ (k : ℕ). up k W 0) t ∙ l.on;
      noted = record { first = sym (b.shut m); second = l.noted.first };
    }

pub looked_other : {W : List Word} {i j o1 c1 o2 c2 : ℕ} (w : Word) (x y : Bool) → Looked W i j o1 c1 o2 c2 → 0 < j → w ≡ get_or W (j - 1) Bad → x ≡ opens w 0 → x ≡ false → y ≡ closes w 0 → y ≡ false → Looked W i (j - 1) o1 c1 o2 c2
looked_other {W} {i} {j} w x y l h g p z q v =
    let f = leaf_is w (sym p ∙ z) (sym q ∙ v) in
    record {
      before = omega (arith, l.before);
      on = ap (up (j - 1) W) (sym (f.high 0)) ∙ sym (up_on W j 0 w x h g p z) ∙ l.on;
      noted = l.noted;
    }

-- the box is the one around i where the scan's is
found_at : {W : List Word} {i a b u s : ℕ} → a ≡ up i W 0 → a ≤ i → Within W a b u s → Found W i b u s
found_at {W} {i} {a} e n f = record {
  box = f.box ∙ e ∙ around_is W i;
  near = omega (arith, f.box, n);
  locals = f.locals;
  locals_in = f.locals_in;
  store = f.store;
  store_in = f.store_in;
}

-- at an opening word, at an End of no bracket, and where no word is left
pub looked_found : {W : List Word} {i j o1 c1 o2 c2 b u s : ℕ} (w : Word) (x : Bool) → Looked W i j o1 c1 o2 c2 → 0 < j → w ≡ get_or W (j - 1) Bad → x ≡ opens w 0 → x ≡ true → Within W (j - 1) b u s → Found W i b u s
looked_found {W} {i} {j} w x l h g p z f = found_at (sym (up_hit W j 0 w x h g p z) ∙ l.on) (omega (arith, l.before)) f

pub looked_alone : {W : List Word} {i j o o1 c1 o2 c2 b u s : ℕ} → Looked W i j o1 c1 o2 c2 → 0 < j → Begun W (j - 1) o → o ≡ j - 1 → Within W 0 b u s → Found W i b u s
looked_alone {W} {i} {j} l h b e f =
    let t : j - 1 + 1 ≡ j = omega arith in
    found_at (sym (b.none e) ∙ ap (λ (k : ℕ). up k W 0) t ∙ l.on) (omega arith) f

pub looked_past : {W : List Word} {i j o1 c1 o2 c2 b u s : ℕ} → Looked W i j o1 c1 o2 c2 → j ≡ 0 → Within W 0 b u s → Found W i b u s
looked_past {W} {i} {j} l e f = found_at (sym (up_zero W 0) ∙ ap (λ (k : ℕ). up k W 0) (sym e) ∙ l.on) (omega arith) f

-- two noted brackets that follow the box's opening word
pub noted_within : {W : List Word} {a o1 c1 o2 c2 : ℕ} → Noted W o1 c1 o2 c2 → o1 ≡ a + 1 → o2 ≡ c1 + 1 → Within W a a c1 c2
noted_within {W} {a} {o1} {c1} {o2} {c2} n e f = record {
  box = refl;
  locals = n.first ∙ ap (close W) e;
  locals_in = omega (arith, n.first, close_le W o1);
  store = n.second ∙ ap (close W) f;
  store_in = omega (arith, n.second, close_le W o2);
}
