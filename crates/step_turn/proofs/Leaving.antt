-- The innermost and-box left: the entry of the stack says to which mark. Assumes nothing.
use mathlib.Core.Path.{◌≡◌, ap, sym, ◌∙◌, subst}
use mathlib.Core.List.{List}
use Prim.Native.Nat.{ℕ, suc, ◌+◌, ◌-◌, ◌*◌, ◌<◌}
use native.Mathlib.Omega.{arith}
use lib.ListN.{get_or}
use Rattle.solve_tells.specs.Tells.{CanBack}
use Rattle.work_tables.specs.Tables.{cells_of, vars_of, olds_of, Laid, CanRead}
use Rattle.work_marks.specs.Marks.{Mark, trail_at, apps_at, used_at, Returns}
use Rattle.work_marks.proofs.Walking.{walk_returns, returns_can_back, walk_back}
use Rattle.work_ranges.specs.Backs.{BackIn}
use Rattle.step_frames.specs.Frames.{frames_of}
use Rattle.step_turn.specs.declared.Stand.{Stand}
use Rattle.step_turn.specs.Leaving.{Over, CanLeave, Left}

pub leave_first : {L : List ℕ} {k n : ℕ} → CanLeave L k n → CanRead L 32768 (4 * (k - 1))
leave_first c = record { laid = c.over.at.walk.laid; inside = omega (arith, c.some, c.few) }

pub leave_read : {L : List ℕ} {k n : ℕ} (i : ℕ) → CanLeave L k n → i < 4 → CanRead L 32768 (4 * (k - 1) + i)
leave_read i c l = record { laid = c.over.at.walk.laid; inside = omega (arith, c.some, c.few) }

over_returns : {L : List ℕ} {h d n : ℕ} (news below : List Mark) → Over L h d n news below → Returns L n below
over_returns {L} news below o = subst (λ (x : ℕ). Returns L x below) o.at.is_trail (walk_returns news below L o.at.walk)

-- where the entry is
slot : (k h i : ℕ) → k ≡ suc h → 4 * (k - 1) + i ≡ 4 * h + i
slot k h i e = omega (arith, e)

pub back_can : {L : List ℕ} {k n : ℕ} (m : ℕ) → CanLeave L k n → m ≡ get_or (frames_of L) (4 * (k - 1) + 2) 0 → Laid L × CanBack (cells_of L) (vars_of L) (olds_of L) n m
back_can {L} {k} {n} m c e =
    let q : m ≡ trail_at c.below = e ∙ ap (λ (i : ℕ). get_or (frames_of L) i 0) (slot k c.height 2 c.some) ∙ c.over.frame.trail in
    (c.over.at.walk.laid, subst (CanBack (cells_of L) (vars_of L) (olds_of L) n) (sym q) (returns_can_back c.below L n (over_returns c.news c.below c.over)))

pub left_of : {L X : List ℕ} {k n : ℕ} (r : Stand) → r.depth ≡ get_or (frames_of L) (4 * (k - 1)) 0 → r.boxes ≡ k - 1 → r.mark.used ≡ get_or (frames_of L) (4 * (k - 1) + 1) 0 → r.mark.trail ≡ get_or (frames_of L) (4 * (k - 1) + 2) 0 → r.mark.applications ≡ get_or (frames_of L) (4 * (k - 1) + 3) 0 → BackIn L n r.mark.trail X → Left L k n X r
left_of {L} {X} {k} {n} r ed eh eu em ea b = record {
  back = λ h d news below e o.
      let z : 4 * (k - 1) ≡ 4 * h = omega (arith, e) in
      let f = o.frame in
      let qm : r.mark.trail ≡ trail_at below = em ∙ ap (λ (i : ℕ). get_or (frames_of L) i 0) (slot k h 2 e) ∙ f.trail in (
        ed ∙ ap (λ (i : ℕ). get_or (frames_of L) i 0) z ∙ f.depth,
        omega (arith, eh, e),
        record {
          walk = walk_back below L X n (over_returns news below o) (subst (λ (x : ℕ). BackIn L n x X) qm b);
          is_used = sym (eu ∙ ap (λ (i : ℕ). get_or (frames_of L) i 0) (slot k h 1 e) ∙ f.words);
          is_trail = sym qm;
          is_apps = sym (ea ∙ ap (λ (i : ℕ). get_or (frames_of L) i 0) (slot k h 3 e) ∙ f.apps);
        },
      );
  rest = b.rest;
}
