-- Regions written one after the other, each where the last one ends. Assumes nothing.
use mathlib.Core.Path.{◌≡◌, refl, sym, ap, ap₂, ◌∙◌}
use mathlib.Core.List.{List, [], ◌++◌, append_assoc, append-nil}
use Prim.Native.Nat.{ℕ, ◌+◌, ◌-◌, ◌≤◌}
use native.Mathlib.Omega.{arith}
use lib.ListN.{length, replicate, length-replicate, take, drop, length-append}
use lib.Seq.{take_at, drop_at, drop-drop}
use Rattle.store_form.specs.Form.{region}
use Rattle.store_form.proofs.Bytes.{length_region}
use Rattle.store_regions.specs.Regions.{Regioned}

-- the first a bytes are A, and all else is as it was in L
pub record Front (L : List ℕ) (a : ℕ) (A X : List ℕ) : Type 0 where
  pub list : X ≡ A ++ drop a L
  pub long : length A ≡ a
  pub within : a ≤ length L

-- a region before others
pub region_on : (n : ℕ) (S r : List ℕ) → region n S [] ++ r ≡ region n S r
unfolding region
region_on n S r =
    let z : List ℕ = replicate (n - length S) 0 in
    ap (λ (x : List ℕ). (S ++ x) ++ r) (append-nil z) ∙ append_assoc S z r

pub front_none : (L : List ℕ) → Front L 0 [] L
front_none L = record { list = refl; long = refl; within = omega arith }

pub front_next : (L A : List ℕ) (a e : ℕ) (S X Y : List ℕ) → a ≤ e → e ≤ length L → length S ≤ e - a → Front L a A X → Regioned X a e S Y → Front L e (A ++ region (e - a) S []) Y
front_next L A a e S X Y h g s f w =
    let k : a + (e - a) ≡ e = omega arith in
    let la = f.long in
    let on : (M : List ℕ) → drop e M ≡ drop (e - a) (drop a M) = λ M. ap (λ (j : ℕ). drop j M) (sym k) ∙ sym (drop-drop (e - a) a M) in
    let back : drop e X ≡ drop e L = on X ∙ ap (drop (e - a)) (ap (drop a) f.list ∙ drop_at A (drop a L) a la) ∙ sym (on L) in
    let first : take a X ≡ A = ap (take a) f.list ∙ take_at A (drop a L) a la in
    record {
      list =
          w.list
          ∙ ap₂ (λ (x y : List ℕ). x ++ region (e - a) S y) first back
          ∙ ap (λ (x : List ℕ). A ++ x) (sym (region_on (e - a) S (drop e L)))
          ∙ sym (append_assoc A (region (e - a) S []) (drop e L));
      long = omega (arith, la, length-append A (region (e - a) S []), length_region (e - a) S [] s);
      within = g;
    }

-- a region that is full
full : (e : ℕ) (S : List ℕ) → length S ≡ e → region (e - 0) S [] ≡ S
unfolding region
full e S l = let z : e - 0 - length S ≡ 0 = omega arith in ap (λ (k : ℕ). S ++ (replicate k 0 ++ [])) z ∙ append-nil S

together : (a b c d e : List ℕ) → ((((([] ++ a) ++ b) ++ c) ++ d) ++ e) ≡ a ++ (b ++ (c ++ (d ++ e)))
together a b c d e = append_assoc ((a ++ b) ++ c) d e ∙ append_assoc (a ++ b) c (d ++ e) ∙ append_assoc a b (c ++ (d ++ e))

-- five regions, the first of which is full
pub five_regions : (L H N R W C X1 X2 X3 X4 X5 : List ℕ) (e1 e2 e3 e4 e5 : ℕ)
    → length H ≡ e1 → length N ≤ e2 - e1 → length R ≤ e3 - e2 → length W ≤ e4 - e3 → length C ≤ e5 - e4
    → e1 ≤ e2 → e2 ≤ e3 → e3 ≤ e4 → e4 ≤ e5 → e5 ≤ length L
    → Regioned L 0 e1 H X1 → Regioned X1 e1 e2 N X2 → Regioned X2 e2 e3 R X3 → Regioned X3 e3 e4 W X4 → Regioned X4 e4 e5 C X5
    → X5 ≡ (H ++ region (e2 - e1) N (region (e3 - e2) R (region (e4 - e3) W (region (e5 - e4) C [])))) ++ drop e5 L
five_regions L H N R W C X1 X2 X3 X4 X5 e1 e2 e3 e4 e5 lh ln lr lw lc h2 h3 h4 h5 g w1 w2 w3 w4 w5 =
    let f1 = front_next L [] 0 e1 H L X1 (omega arith) (omega arith) (omega arith) (front_none L) w1 in
    let f2 = front_next L _ e1 e2 N X1 X2 h2 (omega arith) ln f1 w2 in
    let f3 = front_next L _ e2 e3 R X2 X3 h3 (omega arith) lr f2 w3 in
    let f4 = front_next L _ e3 e4 W X3 X4 h4 (omega arith) lw f3 w4 in
    let f5 = front_next L _ e4 e5 C X4 X5 h5 g lc f4 w5 in
    f5.list
    ∙ ap (λ (x : List ℕ). x ++ drop e5 L)
    (together (region (e1 - 0) H []) (region (e2 - e1) N []) (region (e3 - e2) R []) (region (e4 - e3) W []) (region (e5 - e4) C [])
    ∙ ap₂ (λ (x y : List ℕ). x ++ y) (full e1 H lh)
    (region_on (e2 - e1) N _ ∙ ap (region (e2 - e1) N) (region_on (e3 - e2) R _ ∙ ap (region (e3 - e2) R) (region_on (e4 - e3) W (region (e5 - e4) C [])))))
