-- The judgement for labels that are different below m, where every number of the words is below m. So it is right for the names
-- of a text, whose numbers the reader gives below the count of its names. Assumes nothing.
use mathlib.Core.Path.{◌≡◌, sym, subst}
use mathlib.Core.List.{List}
use Prim.Native.Nat.{ℕ, ◌+◌, ◌-◌, ◌≤◌}
use native.Mathlib.Omega.{arith}
use lib.ListN.{length}
use Rattle.constraint.specs.Tree.{Label}
use Rattle.constraint.specs.Constraint.{Store, Quiet, Fresh}
use Rattle.mem_words.specs.declared.Word.{Word}
use Rattle.work_marks.specs.Marks.{range_told}
use Rattle.work_judge.specs.declared.Judged.{Judged}
use Rattle.work_judge.specs.Judging.{Says, Suits, Judgement}
use Rattle.work_labels.specs.Nums.{Nums, DistinctBelow}
use Rattle.work_labels.proofs.Labels.{labels_from, labels_agree, labels_distinct, range_same}

pub right_below : (S : List Word) (from mid to : ℕ) (vs L : List ℕ) (r : Judged) → Judgement S from mid to vs L r → (lab : ℕ → Label) (m : ℕ) → DistinctBelow m lab → Nums S m → Fresh vs (range_told S from (mid - from) lab) → Says (Quiet vs (range_told S from (mid - from) lab) (range_told S mid (to - mid) lab)) r
right_below S from mid to vs L r j lab m d h f =
    let lab' = labels_from lab m in
    let a : range_told S from (mid - from) lab ≡ range_told S from (mid - from) lab' = range_same lab lab' m (labels_agree lab m) S from (mid - from) h in
    let b : range_told S mid (to - mid) lab ≡ range_told S mid (to - mid) lab' = range_same lab lab' m (labels_agree lab m) S mid (to - mid) h in
    subst (λ (σ : Store). Says (Quiet vs σ (range_told S mid (to - mid) lab)) r) (sym a)
    (subst (λ (τ : Store). Says (Quiet vs (range_told S from (mid - from) lab') τ) r) (sym b)
    (j.right lab' (labels_distinct lab m d) (subst (Fresh vs) a f)))
