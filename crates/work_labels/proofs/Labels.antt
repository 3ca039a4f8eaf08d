-- What words tell depends on the labels that occur in them alone; and labels that are different below m agree there with labels that
-- are different everywhere. Assumes nothing.
use mathlib.Core.Path.{◌≡◌, refl, ap, ap₂, sym, ◌∙◌, subst}
use mathlib.Core.List.{List, [], ◌∷◌, ◌++◌}
use mathlib.Core.Bool.{Bool, true, false, cond}
use Prim.Native.Nat.{ℕ, zero, suc, ◌+◌, ◌-◌, ◌<◌, ◌≤◌}
use native.Mathlib.Nat.{not-suc-le-zero}
use native.Mathlib.Omega.{arith}
use native.Mathlib.Decide.{dec_lt}
use lib.Dec.{ltb}
use lib.ListN.{length, get_or, drop, take, replicate, length-replicate, get_or-append, get_or-eq_default}
use lib.Seq.{get_or-drop, get_or-append-add}
use borrow.Author.Tests.{lt-ltb, le-ltb}
use Rattle.constraint.specs.Tree.{Label}
use Rattle.constraint.specs.Constraint.{Store, capp}
use Rattle.mem_sorts.specs.declared.Sort.{Sort}
use Rattle.mem_sorts.specs.declared.Sort.TheVariants.{Locals, Store as StoreSort, True, Fail, Eq, App, Call, Comp, Hide, Clause, AskWait, AskCond, AskCommit}
use Rattle.mem_words.specs.declared.Word.{Word}
use Rattle.mem_words.specs.declared.Word.TheVariants.{End, Free, Level, Num, Place, Inner, Bad}
use Rattle.solve_fields.specs.Read.{var_of, num_of, args_of, begun, starts, told, Distinct}
use Rattle.mem_copies.specs.Runs.{run}
use Rattle.work_log.specs.Logs.{stop}
use Rattle.work_marks.specs.Marks.{range_told}
use Rattle.work_labels.specs.Nums.{Nums, DistinctBelow, AgreeBelow}

nums_rest : {w : Word} {W : List Word} {m : ℕ} → Nums (w ∷ W) m → Nums W m
nums_rest h = record { low = λ i. h.low (suc i) }

-- the words of a range, with what ends it
nums_zero : {W : List Word} {m : ℕ} → Nums W m → 0 < m
nums_zero {W} {m} h = let q : length W ≤ length W = omega arith in subst (λ (w : Word). num_of w < m) (get_or-eq_default W Bad q) (h.low (length W))

nums_stop : (m : ℕ) → 0 < m → (i : ℕ) → num_of (get_or stop i Bad) < m
unfolding stop
nums_stop m z zero = z
nums_stop m z (suc zero) = z
nums_stop m z (suc (suc zero)) = z
nums_stop m z (suc (suc (suc i))) = z

nums_take : (m n : ℕ) (W : List Word) → 0 < m → ((i : ℕ) → num_of (get_or W i Bad) < m) → (i : ℕ) → num_of (get_or (take n W) i Bad) < m
nums_take m zero W z h i = z
nums_take m (suc n) [] z h i = z
nums_take m (suc n) (w ∷ W) z h zero = h zero
nums_take m (suc n) (w ∷ W) z h (suc i) = nums_take m n W z (λ j. h (suc j)) i

nums_run : {S : List Word} {m : ℕ} (from len : ℕ) → Nums S m → (i : ℕ) → num_of (get_or (run from len S) i Bad) < m
unfolding run
nums_run {S} {m} from len h i = nums_take m len (drop from S) (nums_zero h) (λ j. rw (get_or-drop from S j Bad) (h.low (from + j))) i

nums_range : {S : List Word} {m : ℕ} (from len : ℕ) → Nums S m → Nums (run from len S ++ stop) m
nums_range {S} {m} from len h = record { low = λ i. go i (dec_lt i (length (run from len S))) }
  where
    go : (i : ℕ) → Dec (i < length (run from len S)) → num_of (get_or (run from len S ++ stop) i Bad) < m
    go i (yes l) = subst (λ (w : Word). num_of w < m) (sym (get_or-append (run from len S) stop Bad i l)) (nums_run from len h i)
    go i (no l) =
        let e : i ≡ length (run from len S) + (i - length (run from len S)) = omega arith in
        subst (λ (w : Word). num_of w < m) (sym (ap (λ (j : ℕ). get_or (run from len S ++ stop) j Bad) e ∙ get_or-append-add (run from len S) stop (i - length (run from len S)) Bad)) (nums_stop m (nums_zero h) (i - length (run from len S)))

module _ (lab lab' : ℕ → Label) (m : ℕ) (same : AgreeBelow m lab lab') where
  begun_same : (s : Sort) (r : List Word) → Nums r m → begun lab s r ≡ begun lab' s r
  begun_same Locals r h = refl
  begun_same StoreSort r h = refl
  begun_same True r h = refl
  begun_same Fail r h = refl
  begun_same Eq r h = refl
  begun_same App r h = ap (λ (f : Label). capp (var_of (get_or r 0 Bad)) f (args_of (drop 2 r)) ∷ []) (same (num_of (get_or r 1 Bad)) (h.low 1))
  begun_same Call r h = refl
  begun_same Comp r h = refl
  begun_same Hide r h = refl
  begun_same Clause r h = refl
  begun_same AskWait r h = refl
  begun_same AskCond r h = refl
  begun_same AskCommit r h = refl

  starts_same : (w : Word) (r : List Word) → Nums r m → starts lab w r ≡ starts lab' w r
  starts_same End r h = refl
  starts_same (Free v) r h = refl
  starts_same (Level v) r h = refl
  starts_same (Num v) r h = refl
  starts_same (Place k) r h = refl
  starts_same (Inner s) r h = begun_same s r h
  starts_same Bad r h = refl

  pub told_same : (n : ℕ) (W : List Word) → Nums W m → told lab n W ≡ told lab' n W
  unfolding told
  told_same zero W h = refl
  told_same (suc n) [] h = refl
  told_same (suc n) (w ∷ W) h = ap₂ (λ (a b : Store). a ++ b) (starts_same w W (nums_rest h)) (told_same n W (nums_rest h))

  pub range_same : (S : List Word) (from len : ℕ) → Nums S m → range_told S from len lab ≡ range_told S from len lab'
  range_same S from len h = told_same len (run from len S ++ stop) (nums_range from len h)

-- ---------------------------------------------------------------------------------------------
-- Labels that are different everywhere: from m on each longer than all those below.

total : (ℕ → Label) → ℕ → ℕ
total lab zero = 0
total lab (suc m) = length (lab m) + total lab m

within : (lab : ℕ → Label) (m i : ℕ) → i < m → length (lab i) ≤ total lab m
unfolding total
within lab zero i h = absurd (not-suc-le-zero h)
within lab (suc m) i h = elim (dec_lt i m) [ yes l ↦ omega (arith, within lab m i l) | no g ↦ (let e : i ≡ m = omega (arith, g) in rw e (omega arith)) ]

longer : (ℕ → Label) → ℕ → ℕ → Label
longer lab m i = replicate (suc (total lab m) + i) 0

-- the labels below m, and longer ones from m on
pub labels_from : (ℕ → Label) → ℕ → ℕ → Label
labels_from lab m i = cond (ltb i m) (lab i) (longer lab m i)

from_below : (lab : ℕ → Label) (m i : ℕ) → i < m → lab i ≡ labels_from lab m i
unfolding labels_from
from_below lab m i h = ap (λ (b : Bool). cond b (lab i) (longer lab m i)) (sym (lt-ltb i m h))

from_past : (lab : ℕ → Label) (m i : ℕ) → m ≤ i → labels_from lab m i ≡ longer lab m i
unfolding labels_from
from_past lab m i h = ap (λ (b : Bool). cond b (lab i) (longer lab m i)) (le-ltb i m h)

length_longer : (lab : ℕ → Label) (m i : ℕ) → length (longer lab m i) ≡ suc (total lab m) + i
unfolding longer
length_longer lab m i = length-replicate (suc (total lab m) + i) 0

pub labels_agree : (lab : ℕ → Label) (m : ℕ) → AgreeBelow m lab (labels_from lab m)
labels_agree lab m i h = from_below lab m i h

pub labels_distinct : (lab : ℕ → Label) (m : ℕ) → DistinctBelow m lab → Distinct (labels_from lab m)
labels_distinct lab m d i j e = elim (dec_lt i m) [ yes a ↦ elim (dec_lt j m) [ yes b ↦ d i j a b (from_below lab m i a ∙ e ∙ sym (from_below lab m j b)) | no b ↦ absurd (apart i j a (omega (arith, b)) e) ] | no a ↦ elim (dec_lt j m) [ yes b ↦ absurd (apart j i b (omega (arith, a)) (sym e)) | no b ↦ past (omega (arith, a)) (omega (arith, b)) ] ]
  where
    apart : (i j : ℕ) → i < m → m ≤ j → labels_from lab m i ≡ labels_from lab m j → ⊥
    apart i j a b e =
        let q : length (lab i) ≡ length (longer lab m j) = ap length (from_below lab m i a ∙ e ∙ from_past lab m j b) in
        omega (arith, q, length_longer lab m j, within lab m i a)

    past : m ≤ i → m ≤ j → i ≡ j
    past a b =
        let q : length (longer lab m i) ≡ length (longer lab m j) = ap length (sym (from_past lab m i a) ∙ e ∙ from_past lab m j b) in
        omega (arith, q, length_longer lab m i, length_longer lab m j)
