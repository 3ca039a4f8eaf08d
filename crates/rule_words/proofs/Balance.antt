-- Balanced words: functions that write words before others in which each bracket is closed. The scans pass over them.
use mathlib.Core.Path.{◌≡◌, refl, ap, ap₂, sym, ◌∙◌}
use mathlib.Core.Bool.{Bool, true, false, cond}
use mathlib.Core.List.{List, [], ◌∷◌, ◌++◌, append_assoc}
use Prim.Native.Nat.{ℕ, zero, suc, ◌+◌, ◌-◌, ◌<◌, ◌≤◌}
use native.Mathlib.Numerals.{add-one, sub-one}
use native.Mathlib.Nat.{zero-add}
use native.Mathlib.Omega.{arith}
use lib.ListN.{length, get_or, drop, length-append}
use lib.Seq.{get_or-append_seam, drop-append-add}
use Rattle.mem_words.specs.declared.Word.{Word}
use Rattle.mem_words.specs.declared.Word.TheVariants.{End, Free, Level, Num, Place, Inner, Bad}
use Rattle.rule_words.specs.Scans.{closes, deeper, upto, close, opens, higher, up, around}
use Rattle.rule_words.specs.Pieces.{cat}
use Rattle.rule_words.proofs.Loops.{close_inside, around_is}
use Rattle.rule_words.proofs.Segments.{join, size, cat_join, size_join}

-- F writes words before its argument; the scan forwards counts them all, the scan backwards goes over them.
pub record Balanced (F : List Word → List Word) : Type 0 where
  pub front : (l : List Word) → F l ≡ F [] ++ l
  pub shut : (r : List Word) (d : ℕ) → upto (F r) d ≡ length (F []) + upto r d
  pub back : (A C W : List Word) (d i : ℕ) → W ≡ A ++ F C → i ≡ length A + length (F []) → up i W d ≡ up (length A) W d

pub none : Balanced (λ r. r)
none = record {
  front = λ l. refl;
  shut = λ r d. sym (zero-add _);
  back = λ A C W d i e h. let p : i ≡ length A = omega arith in ap (λ (k : ℕ). up k W d) p;
}

up_step : (A C W : List Word) (w : Word) (i d : ℕ) → W ≡ A ++ (w ∷ C) → i ≡ suc (length A) → up i W d ≡ cond (opens w d) (length A) (up (length A) W (higher w d))
unfolding up
up_step A C W w i d e p =
    let g : get_or W (length A) Bad ≡ w = ap (λ (l : List Word). get_or l (length A) Bad) e ∙ get_or-append_seam A w C Bad in
    ap (λ (k : ℕ). up k W d) p ∙ ap (λ (x : Word). cond (opens x d) (length A) (up (length A) W (higher x d))) g

snoc : (A C W : List Word) (w : Word) → W ≡ A ++ (w ∷ C) → W ≡ (A ++ (w ∷ [])) ++ C
snoc A C W w e = e ∙ sym (append_assoc A (w ∷ []) C)

length_snoc : (A : List Word) (w : Word) → length (A ++ (w ∷ [])) ≡ suc (length A)
length_snoc A w = length-append A (w ∷ []) ∙ add-one (length A)

length_front : {F : List Word → List Word} → Balanced F → (l : List Word) → length (F l) ≡ length (F []) + length l
length_front {F} b l = ap length (b.front l) ∙ length-append (F []) l

-- a word that neither opens nor closes
pub record Leaf (w : Word) : Type 0 where
  pub closes_not : (d : ℕ) → closes w d ≡ false
  pub deep : (d : ℕ) → deeper w d ≡ d
  pub opens_not : (d : ℕ) → opens w d ≡ false
  pub high : (d : ℕ) → higher w d ≡ d

pub a_free : (x : ℕ) → Leaf (Free x)
a_free x = record { closes_not = λ d. refl; deep = λ d. refl; opens_not = λ d. refl; high = λ d. refl }

pub a_level : (x : ℕ) → Leaf (Level x)
a_level x = record { closes_not = λ d. refl; deep = λ d. refl; opens_not = λ d. refl; high = λ d. refl }

pub a_num : (x : ℕ) → Leaf (Num x)
a_num x = record { closes_not = λ d. refl; deep = λ d. refl; opens_not = λ d. refl; high = λ d. refl }

pub leaf : (w : Word) (F : List Word → List Word) → Leaf w → Balanced F → Balanced (λ r. w ∷ F r)
unfolding upto
leaf w F v b = record {
  front = λ l. ap (λ (x : List Word). w ∷ x) (b.front l);
  shut = λ r d. ap₂ (λ (x : Bool) (k : ℕ). cond x 0 (suc (upto (F r) k))) (v.closes_not d) (v.deep d) ∙ omega (arith, b.shut r d);
  back = λ A C W d i e h.
      b.back (A ++ (w ∷ [])) C W d i (snoc A (F C) W w e) (omega (arith, length_snoc A w))
      ∙ up_step A (F C) W w _ d e (length_snoc A w)
      ∙ ap₂ (λ (x : Bool) (k : ℕ). cond x (length A) (up (length A) W k)) (v.opens_not d) (v.high d);
}

-- one after the other
pub then : (F G : List Word → List Word) → Balanced F → Balanced G → Balanced (λ r. F (G r))
then F G a b = record {
  front = λ l. a.front (G l) ∙ ap (λ (x : List Word). F [] ++ x) (b.front l) ∙ sym (append_assoc (F []) (G []) l) ∙ ap (λ (x : List Word). x ++ l) (sym (a.front (G [])));
  shut = λ r d. a.shut (G r) d ∙ omega (arith, b.shut r d, length_front a (G []));
  back = λ A C W d i e h.
      let m : length (A ++ F []) ≡ length A + length (F []) = length-append A (F []) in
      let w : W ≡ (A ++ F []) ++ G C = e ∙ ap (λ (x : List Word). A ++ x) (a.front (G C)) ∙ sym (append_assoc A (F []) (G C)) in
      b.back (A ++ F []) C W d i w (omega (arith, length_front a (G []), m)) ∙ ap (λ (k : ℕ). up k W d) m ∙ a.back A (G C) W d _ e refl;
}

-- a word that opens a bracket
pub record Opening (w : Word) : Type 0 where
  pub closes_not : (d : ℕ) → closes w d ≡ false
  pub deep : (d : ℕ) → deeper w d ≡ suc d
  pub found : opens w 0 ≡ true
  pub opens_not : (d : ℕ) → opens w (suc d) ≡ false
  pub high : (d : ℕ) → higher w (suc d) ≡ d

pub a_place : (k : _) → Opening (Place k)
a_place k = record { closes_not = λ d. refl; deep = λ d. add-one d; found = refl; opens_not = λ d. refl; high = λ d. sub-one (suc d) }

pub an_inner : (s : _) → Opening (Inner s)
an_inner s = record { closes_not = λ d. refl; deep = λ d. add-one d; found = refl; opens_not = λ d. refl; high = λ d. sub-one (suc d) }

-- a bracket around balanced words
pub bracket : (w : Word) (F : List Word → List Word) → Opening w → Balanced F → Balanced (λ r. w ∷ F (End ∷ r))
unfolding upto
bracket w F o b = record {
  front = λ l. ap (λ (x : List Word). w ∷ x) (b.front (End ∷ l) ∙ sym (append_assoc (F []) (End ∷ []) l) ∙ ap (λ (x : List Word). x ++ l) (sym (b.front (End ∷ []))));
  shut = λ r d.
      let z : upto (End ∷ r) (suc d) ≡ suc (upto r d) = ap (λ (k : ℕ). suc (upto r k)) (sub-one (suc d)) in
      ap₂ (λ (x : Bool) (k : ℕ). cond x 0 (suc (upto (F (End ∷ r)) k))) (o.closes_not d) (o.deep d) ∙ omega (arith, b.shut (End ∷ r) (suc d), z, length_front b (End ∷ []));
  back = λ A C W d i e h.
      let A1 = A ++ (w ∷ []) in
      let A2 = A1 ++ F [] in
      let e1 = snoc A _ W w e in
      let e2 : W ≡ A2 ++ (End ∷ C) = e1 ∙ ap (λ (l : List Word). A1 ++ l) (b.front (End ∷ C)) ∙ sym (append_assoc A1 (F []) (End ∷ C)) in
      let n1 = length_snoc A w in
      let n2 : length A2 ≡ length A1 + length (F []) = length-append A1 (F []) in
      up_step A2 C W End i d e2 (omega (arith, length_front b (End ∷ []), n1, n2))
      ∙ ap (λ (k : ℕ). up (length A2) W k) (add-one d)
      ∙ b.back A1 (End ∷ C) W (suc d) (length A2) e1 n2
      ∙ up_step A (F (End ∷ C)) W w _ (suc d) e n1
      ∙ ap₂ (λ (x : Bool) (k : ℕ). cond x (length A) (up (length A) W k)) (o.opens_not d) (o.high d);
}

-- The words of one bracket: where it closes.
pub record Tree (G : List Word → List Word) : Type 0 where
  pub balanced : Balanced G
  pub ends : (A C W : List Word) (i : ℕ) → W ≡ A ++ G C → i ≡ length A → close W i + 1 ≡ i + length (G [])

pub tree : (w : Word) (F : List Word → List Word) → Opening w → Balanced F → Tree (λ r. w ∷ F (End ∷ r))
unfolding upto
tree w F o b = record {
  balanced = bracket w F o b;
  ends = λ A C W i e h.
      let n : length W ≡ length A + suc (length (F (End ∷ C))) = ap length e ∙ length-append A (w ∷ F (End ∷ C)) in
      let q : drop (i + 1) W ≡ F (End ∷ C) = ap₂ drop (ap (λ (k : ℕ). k + 1) h) e ∙ drop-append-add A (w ∷ F (End ∷ C)) 1 in
      let z : upto (drop (i + 1) W) 0 ≡ length (F []) = ap (λ (l : List Word). upto l 0) q ∙ b.shut (End ∷ C) 0 ∙ omega arith in
      omega (arith, close_inside W i (omega arith), z, length_front b (End ∷ []));
}

-- among segments
pub seg_ends : (G : List Word → List Word) → Tree G → (X : List (List Word)) (Z W : List Word) (i : ℕ) → W ≡ cat X (G Z) → i ≡ size X → close W i + 1 ≡ i + length (G [])
seg_ends G t X Z W i w p = t.ends (join X) Z W i (w ∙ cat_join X (G Z)) (p ∙ sym (size_join X))

-- The bracket around what stands behind its first words.
pub seg_around : (w : Word) (F : List Word → List Word) → Opening w → Balanced F → (X : List (List Word)) (C W : List Word) (i : ℕ) → W ≡ cat X (w ∷ F C) → i ≡ size X + suc (length (F [])) → around W i ≡ size X
seg_around w F o b X C W i e h =
    let A = join X in
    let f = e ∙ cat_join X (w ∷ F C) in
    let n = length_snoc A w in
    sym (around_is W i)
    ∙ b.back (A ++ (w ∷ [])) C W 0 i (snoc A (F C) W w f) (omega (arith, n, size_join X))
    ∙ up_step A (F C) W w _ 0 f n
    ∙ ap (λ (x : Bool). cond x (length A) (up (length A) W (higher w 0))) o.found
    ∙ size_join X
