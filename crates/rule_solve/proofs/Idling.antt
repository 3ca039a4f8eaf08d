-- The tables between two questions: made so, kept by what changes other parts of the slice, and had back after a question. Assumes nothing.
use mathlib.Core.Path.{◌≡◌, ap, sym, ◌∙◌, subst}
use mathlib.Core.Bool.{true, false}
use mathlib.Core.List.{List, [], append-nil}
use Prim.Native.Nat.{ℕ, ◌+◌, ◌≤◌}
use native.Mathlib.Omega.{arith}
use Rattle.mem_words.specs.declared.Word.{Word}
use Rattle.mem_parts.specs.Parts.{Outside, outside_then, outside_wide, cut_left, cut_right, Zeroed}
use Rattle.solve_quiet.specs.Solver.{Marking}
use Rattle.solve_classes.specs.Means.{OldVars}
use Rattle.solve_tells.specs.Tells.{CanBack}
use Rattle.work_tables.specs.Tables.{cells_of, vars_of, olds_of, locals_of, Laid}
use Rattle.work_ranges.specs.Backs.{BackIn}
use Rattle.work_marks.specs.Marks.{Mark, trail_at, Walk, Returns}
use Rattle.work_marks.proofs.Walking.{walk_returns, returns_can_back, walk_back, walk_beside}
use Rattle.work_enter.specs.Enters.{At}
use Rattle.work_judge.proofs.Locals.{locals_none}
use Rattle.rule_ranges.specs.Ranges.{ranges_from}
use Rattle.rule_ranges.specs.Asked.{SatIn}
use Rattle.rule_tells.specs.declared.Around.{Around}
use Rattle.rule_tells.specs.declared.Around.TheVariants.{All, Failed}
use Rattle.rule_tells.specs.Telling.{Onward, AllOf, NoneOf, ToldAll}
use Rattle.rule_solve.specs.Idle.{Idle}
use Rattle.rule_solve.proofs.Starts.{idle_at, start_at, env_satisfied}

-- marks of locals are kept by what ends before them
pub marks_kept : {L X : List ℕ} (vs : List ℕ) → Outside 0 335872 L X → Marking (locals_of L) vs → Marking (locals_of X) vs
unfolding locals_of
marks_kept vs o m = subst (λ (l : List ℕ). Marking l vs) (sym (cut_right 335872 401408 (omega arith) o)) m

-- cells and marks were made zero
pub idle_zeroed : {L A X : List ℕ} → Laid L → Zeroed 16384 212992 L A → Zeroed 335872 401408 A X → Idle X × Outside 0 401408 L X
idle_zeroed {L} {A} {X} h a x = (
  record {
    walk = walk_beside [] A X 401408 (start_at h a).walk x.rest;
    unmarked = (locals_none A [] X x).marks;
  },
  outside_then (outside_wide 0 401408 (omega arith) (omega arith) a.rest) (outside_wide 0 401408 (omega arith) (omega arith) x.rest),
)

-- what lies behind the marks may change
pub idle_beside : {a e : ℕ} {L X : List ℕ} → 401408 ≤ a → a ≤ 524288 → Outside a e L X → Idle L → Idle X
unfolding locals_of
idle_beside {a} {e} {L} {X} h g o i =
    let k = i.walk.laid.long in
    record {
      walk = walk_beside [] L X e i.walk (outside_wide 335872 e (omega arith) (omega arith) o);
      unmarked = subst (λ (l : List ℕ). Marking l []) (sym (cut_left 335872 401408 (omega arith) h (omega arith) o)) i.unmarked;
    }

-- from any mark of a walk its beginning can be had back
pub at_returns : (ms : List Mark) (X : List ℕ) (u n a : ℕ) → At X u n a ms → Returns X n []
at_returns ms X u n a p = subst (λ (k : ℕ). Returns X k []) (ap trail_at (append-nil ms) ∙ p.is_trail) (walk_returns ms [] X (subst (Walk X) (sym (append-nil ms)) p.walk))

-- `back` may then be called with any lengths up to that of the trail
pub can_return : {X : List ℕ} {n : ℕ} → Returns X n [] → (m k : ℕ) → k ≤ m → m ≤ n → Laid X × CanBack (cells_of X) (vars_of X) (olds_of X) m k
unfolding OldVars
can_return {X} {n} r m k h l = let c = returns_can_back [] X n r in (r.laid, record { le = h; fit_x = omega (arith, c.fit_x); fit_c = omega (arith, c.fit_c); vars = λ t a b. c.vars t (omega arith) (omega arith) })

-- the stores around the and-box at j were told on tables A that were idle
module _ (W : List Word) (A X : List ℕ) (j : ℕ) (i : Idle A) where
  told_idle : (r : Around) → ToldAll W A (ranges_from W 0 (j + 1)) 0 0 0 X r → {Y : List ℕ} → Walk Y [] → Outside 0 335872 X Y → Idle Y × Outside 0 401408 A Y
  told_idle r t w o =
      let p : Outside 0 335872 A _ = outside_then t.rest o in
      (record { walk = w; unmarked = marks_kept [] p i.unmarked }, outside_wide 0 401408 (omega arith) (omega arith) p)

  module _ (u n a : ℕ) (r : Around) (e : r ≡ All u n a) (t : ToldAll W A (ranges_from W 0 (j + 1)) 0 0 0 X r) where
    all_of : AllOf W A (ranges_from W 0 (j + 1)) 0 0 0 X u n a
    all_of = (subst (ToldAll W A (ranges_from W 0 (j + 1)) 0 0 0 X) e t).answer

    pub told_returns : Returns X n []
    told_returns = let o = all_of.on [] (idle_at i.walk) in at_returns _ X u n a o.at

    -- all was told, so there is a solution
    pub sat_yes : (Y : List ℕ) → BackIn X n 0 Y → SatIn W j true × Idle Y × Outside 0 401408 A Y
    sat_yes Y b =
        let q = told_idle r t (walk_back [] X Y n told_returns b) (outside_wide 0 335872 (omega arith) (omega arith) b.rest) in
        (record { right = λ lab d. env_satisfied lab W (ranges_from W 0 (j + 1)) X u n a (all_of.on [] (idle_at i.walk)) }, q.0, q.1)

  module _ (k : ℕ) (r : Around) (e : r ≡ Failed k) (t : ToldAll W A (ranges_from W 0 (j + 1)) 0 0 0 X r) where
    none_of : NoneOf W A (ranges_from W 0 (j + 1)) 0 0 0 X k
    none_of = (subst (ToldAll W A (ranges_from W 0 (j + 1)) 0 0 0 X) e t).answer

    pub none_returns : Returns X k []
    none_returns = none_of.returns [] (idle_at i.walk)

    -- they have no solution
    pub sat_no : (Y : List ℕ) → BackIn X k 0 Y → SatIn W j false × Idle Y × Outside 0 401408 A Y
    sat_no Y b =
        let q = told_idle r t (walk_back [] X Y k none_returns b) (outside_wide 0 335872 (omega arith) (omega arith) b.rest) in
        (record { right = λ lab d s. none_of.none [] (idle_at i.walk) lab d s }, q.0, q.1)
