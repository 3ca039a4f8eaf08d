-- What the quiet test says of every walk that is at the mark. Assumes nothing.
use mathlib.Core.Path.{◌≡◌, sym, subst}
use mathlib.Core.Bool.{true, false}
use mathlib.Core.List.{List, ◌∷◌, ◌++◌}
use Prim.Native.Nat.{ℕ}
use Rattle.solve_tells.specs.Draws.{Drawn}
use Rattle.solve_quiet.specs.Solver.{CanCalm, Calmed, Kept}
use Rattle.solve_quiet.specs.declared.Calm.{Calm}
use Rattle.solve_quiet.specs.declared.Calm.TheVariants.{Silent, Loudly, NoSpace}
use Rattle.work_tables.specs.Tables.{cells_of, vars_of, olds_of, pos_of, log_of, marks_of, stack_of, dones_of, locals_of, Laid, Logged, Tried}
use Rattle.work_marks.specs.Marks.{Mark, trail_at, apps_at, used_at}
use Rattle.work_marks.proofs.Walking.{walk_kept}
use Rattle.work_marks.proofs.Verdicts.{walk_can_calm, walk_silent, walk_loud}
use Rattle.work_marks.proofs.Rooms.{quiet_never}
use Rattle.work_enter.specs.Enters.{At}
use Rattle.step_quiet.specs.Silence.{CanSilence, Silence}

-- what is true of the numbers of the marks is true of those at hand, and the other way round
module _ {L : List ℕ} {used n a from : ℕ} (news below : List Mark) (p : At L used n a (news ++ below)) (e : trail_at below ≡ from) where
  at_marks : (Q : ℕ → ℕ → ℕ → ℕ → Type 0) → Q (used_at (news ++ below)) (trail_at (news ++ below)) (apps_at (news ++ below)) (trail_at below) → Q used n a from
  at_marks Q x = subst (λ (i : ℕ). Q i n a from) p.is_used (subst (λ (i : ℕ). Q (used_at (news ++ below)) i a from) p.is_trail (subst (λ (i : ℕ). Q (used_at (news ++ below)) (trail_at (news ++ below)) i from) p.is_apps (subst (Q (used_at (news ++ below)) (trail_at (news ++ below)) (apps_at (news ++ below))) e x)))

  to_marks : (Q : ℕ → ℕ → ℕ → ℕ → Type 0) → Q used n a from → Q (used_at (news ++ below)) (trail_at (news ++ below)) (apps_at (news ++ below)) (trail_at below)
  to_marks Q x = at_marks (λ (i l o f : ℕ). Q i l o f → Q (used_at (news ++ below)) (trail_at (news ++ below)) (apps_at (news ++ below)) (trail_at below)) (λ y. y) x

  calmed : (r r' : Calm) → r ≡ r' → Calmed (log_of used L) (locals_of L) (pos_of L) (cells_of L) (vars_of L) (olds_of L) n a from r → Calmed (log_of (used_at (news ++ below)) L) (locals_of L) (pos_of L) (cells_of L) (vars_of L) (olds_of L) (trail_at (news ++ below)) (apps_at (news ++ below)) (trail_at below) r'
  calmed r r' er q = to_marks (λ (i l f h : ℕ). Calmed (log_of i L) (locals_of L) (pos_of L) (cells_of L) (vars_of L) (olds_of L) l f h r') (subst (Calmed (log_of used L) (locals_of L) (pos_of L) (cells_of L) (vars_of L) (olds_of L) n a from) er q)

  ready : Laid L × Logged used × CanCalm (log_of used L) (locals_of L) (pos_of L) (cells_of L) (vars_of L) (olds_of L) (marks_of L) (stack_of L) (dones_of L) n a from
  ready = at_marks (λ (i l o f : ℕ). Laid L × Logged i × CanCalm (log_of i L) (locals_of L) (pos_of L) (cells_of L) (vars_of L) (olds_of L) (marks_of L) (stack_of L) (dones_of L) l o f) (walk_can_calm news below L p.walk)

pub can_test : {L : List ℕ} {used n a from : ℕ} → CanSilence L used n a from → Laid L × Logged used × CanCalm (log_of used L) (locals_of L) (pos_of L) (cells_of L) (vars_of L) (olds_of L) (marks_of L) (stack_of L) (dones_of L) n a from
can_test c = ready c.news c.below c.at c.since

stays : {L X : List ℕ} {used n a : ℕ} → Kept (cells_of L) (vars_of L) (olds_of L) n (cells_of X) (vars_of X) (olds_of X) → Tried L X → (ms : List Mark) → At L used n a ms → At X used n a ms
stays {L} {X} kp tr ms p = record { walk = walk_kept ms L X p.walk (subst (λ (i : ℕ). Kept (cells_of L) (vars_of L) (olds_of L) i (cells_of X) (vars_of X) (olds_of X)) (sym p.is_trail) kp) tr; is_used = p.is_used; is_trail = p.is_trail; is_apps = p.is_apps }

module _ {L X : List ℕ} {used n a from : ℕ} (r : Calm) (q : Calmed (log_of used L) (locals_of L) (pos_of L) (cells_of L) (vars_of L) (olds_of L) n a from r) (kp : Kept (cells_of L) (vars_of L) (olds_of L) n (cells_of X) (vars_of X) (olds_of X)) (tr : Tried L X) where
  pub is_silent : r ≡ Silent → Silence L used n a from X true
  is_silent er = record {
    right = λ news below p e lab vs m fr s. walk_silent news below L p.walk lab vs (calmed news below p e r Silent er q) m fr;
    still = stays kp tr;
    rest = tr;
  }

  pub is_loud : r ≡ Loudly → Silence L used n a from X false
  is_loud er = record {
    right = λ news below p e lab vs m fr s. walk_loud news below L p.walk lab vs (calmed news below p e r Loudly er q) m fr s;
    still = stays kp tr;
    rest = tr;
  }

  -- there is room for the test
  pub has_room : r ≡ NoSpace → CanSilence L used n a from → Silence L used n a from X false
  has_room er c =
      let p = c.at in
      absurd (quiet_never (c.news ++ c.below) L (trail_at c.below) c.others p.walk (subst (λ (i : ℕ). Drawn (log_of i L) (0 ∷ c.others)) (sym p.is_used) c.logged) c.trail (calmed c.news c.below p c.since r NoSpace er q))
