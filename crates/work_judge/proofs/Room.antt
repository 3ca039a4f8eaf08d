-- A slice with room: the answer is a verdict; and what is room enough. Assumes nothing.
use mathlib.Core.Path.{◌≡◌, refl, ap, ◌∙◌}
use mathlib.Core.Logic.{◌⊎◌, inl, inr}
use mathlib.Core.List.{List, [], ◌∷◌, ◌++◌}
use Prim.Native.Nat.{ℕ, ◌+◌, ◌-◌, ◌*◌, ◌≤◌}
use native.Mathlib.Omega.{arith}
use lib.ListN.{length, length-append}
use Rattle.mem_words.specs.declared.Word.{Word}
use Rattle.mem_words.specs.declared.Word.TheVariants.{End}
use Rattle.mem_copies.specs.Runs.{run, length_run}
use Rattle.solve_tells.specs.Reach.{vars_of, vars_most}
use Rattle.solve_tells.specs.Draws.{Drawn}
use Rattle.solve_tells.proofs.Rooms.{drawn_own, drawn_append}
use Rattle.work_judge.specs.declared.Judged.{Judged}
use Rattle.work_judge.specs.declared.Judged.TheVariants.{Unfit, NoSpace, Silent, Loudly}
use Rattle.work_log.specs.Logs.{stop}
use Rattle.work_marks.specs.Marks.{apps_told}
use Rattle.work_marks.proofs.Rooms.{drawn_range}
use Rattle.work_judge.specs.Judging.{RoomIn, Suits, written, Judgement}

pub answered : (S : List Word) (from mid to : ℕ) (vs L : List ℕ) (r : Judged) → Judgement S from mid to vs L r → Suits S from mid to L → RoomIn (written S from mid to) (apps_told S from (mid - from) + apps_told S mid (to - mid)) → (r ≡ Silent) ⊎ (r ≡ Loudly)
answered S from mid to vs L Unfit j s q = absurd (j.fits s)
answered S from mid to vs L NoSpace j s q = absurd (j.fits.1 q)
answered S from mid to vs L Silent j s q = inl refl
answered S from mid to vs L Loudly j s q = inr refl

length_stopped : (A : List Word) → length (A ++ stop) ≡ length A + 3
unfolding stop
length_stopped A = length-append A (End ∷ (End ∷ (End ∷ [])))

-- by the number of different variables, 0 not counted
pub room_vars : (S : List Word) (from mid to : ℕ) (L : List ℕ) (q : ℕ) (us : List ℕ) → Suits S from mid to L → q ≤ 2048 → Drawn S (0 ∷ us) → 3 * (length us + 1) + 2 ≤ 8192 → RoomIn (written S from mid to) q
room_vars S from mid to L q us s a d t =
    let b = s.first in let c = s.second in let e = s.end in
    record {
      apps = a;
      vars = 0 ∷ us;
      drawn = drawn_append (run from (mid - from) S ++ stop) (run mid (to - mid) S ++ stop) (0 ∷ us) (drawn_range S from (mid - from) (0 ∷ us) (omega arith) d) (drawn_range S mid (to - mid) (0 ∷ us) (omega arith) d);
      trail = omega arith;
    }

-- by the number of words
pub room_words : (S : List Word) (from mid to : ℕ) (L : List ℕ) (q : ℕ) → Suits S from mid to L → q ≤ 2048 → 3 * (to - from + 7) + 2 ≤ 8192 → RoomIn (written S from mid to) q
room_words S from mid to L q s a t =
    let b = s.first in let c = s.second in let d = s.end in
    let r1 : length (run from (mid - from) S) ≡ mid - from = length_run from (mid - from) S (omega arith) in
    let r2 : length (run mid (to - mid) S) ≡ to - mid = length_run mid (to - mid) S (omega arith) in
    let e1 : length (run from (mid - from) S ++ stop) ≡ mid - from + 3 = length_stopped (run from (mid - from) S) ∙ ap (λ (k : ℕ). k + 3) r1 in
    let e2 : length (run mid (to - mid) S ++ stop) ≡ to - mid + 3 = length_stopped (run mid (to - mid) S) ∙ ap (λ (k : ℕ). k + 3) r2 in
    let e : length (written S from mid to) ≡ length (run from (mid - from) S ++ stop) + length (run mid (to - mid) S ++ stop) = length-append (run from (mid - from) S ++ stop) (run mid (to - mid) S ++ stop) in
    record { apps = a; vars = vars_of (written S from mid to); drawn = drawn_own (written S from mid to); trail = omega (arith, vars_most (written S from mid to), e, e1, e2) }
