-- Names compared from the end. Assumes nothing.
use mathlib.Core.Path.{◌≡◌, refl, ap, ap₂, sym, ◌∙◌}
use mathlib.Core.List.{List, [], ◌∷◌, ◌++◌}
use mathlib.Core.Bool.{Bool, true, false, ◌&&◌}
use Prim.Native.Nat.{ℕ, zero, suc, ◌+◌, ◌/◌, ◌%◌, ◌<◌, ◌≤◌}
use native.Mathlib.Omega.{arith}
use lib.Dec.{eqb}
use lib.ListN.{length, get_or, take}
use lib.Seq.{take-suc}
use borrow.Author.Tests.{eq-eqb, ne_eqb}
use Rattle.akl.specs.Base.{Name, same}
use Rattle.read_nodes.specs.Spell.{named, Lower, named_root, named_step}

and_false : (a : Bool) → a && false ≡ false
and_false true = refl
and_false false = refl

swap : (a b c : Bool) → a && (b && c) ≡ b && (a && c)
swap true true c = refl
swap true false c = refl
swap false true c = refl
swap false false c = refl

nothing_snoc : (v : Name) (y : ℕ) → same [] (v ++ (y ∷ [])) ≡ false
unfolding same
nothing_snoc [] y = refl
nothing_snoc (b ∷ v) y = refl

snoc_nothing : (w : Name) (x : ℕ) → same (w ++ (x ∷ [])) [] ≡ false
unfolding same
snoc_nothing [] x = refl
snoc_nothing (a ∷ w) x = refl

pub same_snoc : (w v : Name) (x y : ℕ) → same (w ++ (x ∷ [])) (v ++ (y ∷ [])) ≡ (eqb x y && same w v)
unfolding same
same_snoc [] [] x y = refl
same_snoc [] (b ∷ v) x y = ap (λ (c : Bool). eqb x b && c) (nothing_snoc v y) ∙ and_false (eqb x b) ∙ sym (and_false (eqb x y))
same_snoc (a ∷ w) [] x y = ap (λ (c : Bool). eqb a y && c) (snoc_nothing w x) ∙ and_false (eqb a y) ∙ sym (and_false (eqb x y))
same_snoc (a ∷ w) (b ∷ v) x y = ap (λ (c : Bool). eqb a b && c) (same_snoc w v x y) ∙ swap (eqb a b) (eqb x y) (same w v)

-- The loop: what is left to be compared is the name of node k with the first j bytes of the word.
pub record Comparing (N v : List ℕ) (i k j : ℕ) : Type 0 where
  pub node : k < length N
  pub left : j ≤ length v
  pub is : same (named N i) v ≡ same (named N k) (take j v)

take_whole : (v : List ℕ) → take (length v) v ≡ v
take_whole [] = refl
take_whole (x ∷ v) = ap (λ (t : List ℕ). x ∷ t) (take_whole v)

pub comparing_all : {N v : List ℕ} {i j : ℕ} → i < length N → j ≡ length v → Comparing N v i i j
comparing_all {N} {v} {i} {j} h e = record { node = h; left = omega arith; is = ap (same (named N i)) (sym (ap (λ (n : ℕ). take n v) e ∙ take_whole v)) }

-- one byte more on both sides
last_of : (v : List ℕ) (j m : ℕ) → j ≡ m + 1 → j ≤ length v → take j v ≡ take m v ++ (get_or v m 0 ∷ [])
last_of v j m e h = let z : j ≡ suc m = omega arith in ap (λ (n : ℕ). take n v) z ∙ take-suc v m 0 (omega arith)

step : {N v : List ℕ} {i k j : ℕ} (m : ℕ) → Lower N (length N) → 0 < k → Comparing N v i k j → j ≡ m + 1 → same (named N i) v ≡ (eqb (get_or N k 0 % 256) (get_or v m 0) && same (named N (get_or N k 0 / 256)) (take m v))
step {N} {v} {i} {k} {j} m L g C e =
    C.is
    ∙ ap₂ same (named_step N (length N) L k g C.node) (last_of v j m e C.left)
    ∙ same_snoc (named N (get_or N k 0 / 256)) (take m v) (get_or N k 0 % 256) (get_or v m 0)

pub comparing_more : {N v : List ℕ} {i k j x p : ℕ} (m : ℕ) → Lower N (length N) → 0 < k → Comparing N v i k j → j ≡ m + 1 → x ≡ get_or N k 0 % 256 → p ≡ get_or N k 0 / 256 → x ≡ get_or v m 0 → Comparing N v i p m
comparing_more {N} {v} {i} {k} {j} {x} {p} m L g C d e q f =
    let h = C.left in
    let n = C.node in
    let l = L k g n in
    record {
      node = omega arith;
      left = omega arith;
      is = step m L g C d ∙ ap (λ (b : Bool). b && same (named N (get_or N k 0 / 256)) (take m v)) (eq-eqb (get_or N k 0 % 256) (get_or v m 0) (sym e ∙ f)) ∙ ap (λ (a : ℕ). same (named N a) (take m v)) (sym q);
    }

pub comparing_other : {N v : List ℕ} {i k j x : ℕ} (m : ℕ) → Lower N (length N) → 0 < k → Comparing N v i k j → j ≡ m + 1 → x ≡ get_or N k 0 % 256 → (x ≡ get_or v m 0 → ⊥) → false ≡ same (named N i) v
comparing_other {N} {v} {i} {k} {j} {x} m L g C d e n = sym (step m L g C d ∙ ap (λ (b : Bool). b && same (named N (get_or N k 0 / 256)) (take m v)) (ne_eqb (get_or N k 0 % 256) (get_or v m 0) (λ z. n (e ∙ z))))

-- the root has no byte left, the word has
some_left : (v : List ℕ) (j : ℕ) → 0 < j → j ≤ length v → same [] (take j v) ≡ false
unfolding same
some_left v zero a b = absurd (omega arith)
some_left [] (suc j) a b = absurd (omega arith)
some_left (x ∷ v) (suc j) a b = refl

pub comparing_short : {N v : List ℕ} {i k j : ℕ} → Comparing N v i k j → k ≡ 0 → 0 < j → false ≡ same (named N i) v
comparing_short {N} {v} {i} {k} {j} C e g = sym (C.is ∙ ap (λ (a : ℕ). same (named N a) (take j v)) e ∙ ap (λ (w : Name). same w (take j v)) (named_root N) ∙ some_left v j g C.left)

-- the word has no byte left
nothing_left : (N : List ℕ) (k : ℕ) → Lower N (length N) → k < length N → eqb k 0 ≡ same (named N k) []
unfolding same
nothing_left N zero L h = eq-eqb 0 0 refl ∙ sym (ap (λ (w : Name). same w []) (named_root N))
nothing_left N (suc k) L h = ne_eqb (suc k) 0 (λ z. omega (arith, z)) ∙ sym (ap (λ (w : Name). same w []) (named_step N (length N) L (suc k) (omega arith) h) ∙ snoc_nothing (named N (get_or N (suc k) 0 / 256)) (get_or N (suc k) 0 % 256))

pub comparing_end : {N v : List ℕ} {i k j : ℕ} → Lower N (length N) → Comparing N v i k j → j ≡ 0 → eqb k 0 ≡ same (named N i) v
comparing_end {N} {v} {i} {k} {j} L C e = nothing_left N k L C.node ∙ sym (C.is ∙ ap (λ (n : ℕ). same (named N k) (take n v)) e)
