-- The answers on the stores inside a goal, with all locals inside it marked. Assumes nothing.
use mathlib.Core.Path.{◌≡◌, sym, subst}
use mathlib.Core.Bool.{Bool, true, false}
use mathlib.Core.List.{List, [], ◌∷◌, ◌++◌}
use Prim.Native.Nat.{ℕ, ◌+◌, ◌≤◌, ◌<◌}
use native.Mathlib.Omega.{arith}
use lib.ListN.{length}
use Rattle.mem_words.specs.declared.Word.{Word}
use Rattle.mem_parts.specs.Parts.{Outside, outside_then, outside_wide}
use Rattle.solve_quiet.specs.Solver.{Marking, CanCalm, Calmed, Kept}
use Rattle.solve_quiet.specs.declared.Calm.{Calm}
use Rattle.solve_quiet.specs.declared.Calm.TheVariants.{Silent, Loudly, NoSpace}
use Rattle.work_tables.specs.Tables.{cells_of, vars_of, olds_of, pos_of, log_of, marks_of, stack_of, dones_of, locals_of, Laid, Logged, Tried}
use Rattle.work_ranges.specs.Backs.{BackIn}
use Rattle.work_marks.specs.Marks.{Walk, Returns}
use Rattle.work_marks.proofs.Walking.{walk_back, walk_beside}
use Rattle.work_enter.specs.Enters.{At}
use Rattle.rule_locals.specs.Inside.{Given}
use Rattle.rule_locals.proofs.Givings.{marked_now, unmarked_now}
use Rattle.rule_ranges.specs.Ranges.{ranges_from, locals_at}
use Rattle.rule_ranges.specs.Asked.{Roomy, RoomFor, QuietIn}
use Rattle.rule_ranges.proofs.Drawing.{from_drawn, drawn_both}
use Rattle.rule_tells.specs.declared.Around.{Around}
use Rattle.rule_tells.specs.declared.Around.TheVariants.{All, Failed}
use Rattle.rule_tells.specs.Telling.{CanTellAll, AllOf, NoneOf, ToldAll}
use Rattle.rule_solve.specs.Idle.{Idle, CanQuiet}
use Rattle.rule_solve.proofs.Starts.{idle_at, idle_can}
use Rattle.rule_solve.proofs.Idling.{marks_kept}
use Rattle.rule_solve.proofs.Silence.{env_can, inner_can, inner_none, none_returns, can_quiet, inner_silent, inner_loud, inner_room, inner_returns}

-- the verdict; nothing is told afterwards, and the marks are as they were
abbrev pub Said : List Word → List ℕ → ℕ → ℕ → Bool → List ℕ → Type 0
Said W B g j r X = QuietIn W g j r × Walk X [] × Outside 0 335872 B X

module _ (W : List Word) (B : List ℕ) (g j : ℕ) (c : CanQuiet W B g j) where
  ry : Roomy W
  ry = c.roomy

  all_can : CanTellAll W B (ranges_from W 0 g ++ ranges_from W g (j + 1)) 0 0 0
  unfolding ry
  all_can = idle_can c.walk ry c.room (drawn_both W (ranges_from W 0 g) (ranges_from W g (j + 1)) (0 ∷ ry.others) (from_drawn W (0 ∷ ry.others) ry.drawn 0 g) (from_drawn W (0 ∷ ry.others) ry.drawn g (j + 1)))

  start : At B 0 0 0 []
  start = idle_at c.walk

  pub goal_can : CanTellAll W B (ranges_from W 0 g) 0 0 0
  goal_can = env_can W B (ranges_from W 0 g) (ranges_from W g (j + 1)) all_can start

  wide : {X Y : List ℕ} {m n : ℕ} → BackIn X m n Y → Outside 0 335872 X Y
  wide b = outside_wide 0 335872 (omega arith) (omega arith) b.rest

  -- nothing satisfies the environment
  module _ (Y : List ℕ) (k : ℕ) (r : Around) (e : r ≡ Failed k) (t : ToldAll W B (ranges_from W 0 g) 0 0 0 Y r) where
    goal_none : NoneOf W B (ranges_from W 0 g) 0 0 0 Y k
    goal_none = (subst (ToldAll W B (ranges_from W 0 g) 0 0 0 Y) e t).answer

    pub goal_returns : Returns Y k []
    goal_returns = goal_none.returns [] start

    pub goal_hopeless : (Z : List ℕ) → BackIn Y k 0 Z → Said W B g j true Z
    goal_hopeless Z b = (record { right = λ lab d fr ρ s. absurd (goal_none.none [] start lab d (ρ, s)) }, walk_back [] Y Z k goal_returns b, outside_then t.rest (wide b))

  module _ (Y : List ℕ) (u n a : ℕ) (r : Around) (er : r ≡ All u n a) (t : ToldAll W B (ranges_from W 0 g) 0 0 0 Y r) where
    outer : AllOf W B (ranges_from W 0 g) 0 0 0 Y u n a
    outer = (subst (ToldAll W B (ranges_from W 0 g) 0 0 0 Y) er t).answer

    pub stores_can : CanTellAll W Y (ranges_from W g (j + 1)) u n a
    stores_can = inner_can W B (ranges_from W 0 g) (ranges_from W g (j + 1)) all_can start Y u n a outer

    -- the stores have no solution with it
    module _ (Z : List ℕ) (m : ℕ) (k : Around) (e : k ≡ Failed m) (v : ToldAll W Y (ranges_from W g (j + 1)) u n a Z k) where
      stores_none : NoneOf W Y (ranges_from W g (j + 1)) u n a Z m
      stores_none = (subst (ToldAll W Y (ranges_from W g (j + 1)) u n a Z) e v).answer

      pub stores_returns : Returns Z m []
      stores_returns = none_returns W B (ranges_from W 0 g) (ranges_from W g (j + 1)) all_can start Y u n a outer Z m stores_none

      pub stores_hopeless : (X : List ℕ) → BackIn Z m 0 X → Said W B g j false X
      stores_hopeless X b = (record { right = λ lab d fr. inner_none W B (ranges_from W 0 g) (ranges_from W g (j + 1)) all_can start Y u n a outer (locals_at W g) Z m stores_none lab d fr }, walk_back [] Z X m stores_returns b, outside_then t.rest (outside_then v.rest (wide b)))

    module _ (Z : List ℕ) (v m b : ℕ) (k : Around) (ek : k ≡ All v m b) (y : ToldAll W Y (ranges_from W g (j + 1)) u n a Z k) where
      inner : AllOf W Y (ranges_from W g (j + 1)) u n a Z v m b
      inner = (subst (ToldAll W Y (ranges_from W g (j + 1)) u n a Z) ek y).answer

      pub stores_quiet : Laid Z × Logged v × CanCalm (log_of v Z) (locals_of Z) (pos_of Z) (cells_of Z) (vars_of Z) (olds_of Z) (marks_of Z) (stack_of Z) (dones_of Z) m b n
      stores_quiet = can_quiet W B (ranges_from W 0 g) (ranges_from W g (j + 1)) all_can start Y u n a outer Z v m b inner

      marking : Marking (locals_of Z) (locals_at W g)
      marking = marks_kept (locals_at W g) (outside_then t.rest y.rest) c.marks

      module _ (X : List ℕ) (o : Calm) (q : Calmed (log_of v Z) (locals_of Z) (pos_of Z) (cells_of Z) (vars_of Z) (olds_of Z) m b n o) (kp : Kept (cells_of Z) (vars_of Z) (olds_of Z) m (cells_of X) (vars_of X) (olds_of X)) (tr : Tried Z X) where
        pub stores_return : Returns X m []
        stores_return = inner_returns W B (ranges_from W 0 g) (ranges_from W g (j + 1)) all_can start Y u n a outer Z v m b inner X kp tr

        module _ (E : List ℕ) (bk : BackIn X m 0 E) where
          out_all : Outside 0 335872 B E
          out_all = outside_then (outside_then t.rest y.rest) (outside_then (outside_wide 0 335872 (omega arith) (omega arith) tr) (outside_wide 0 335872 (omega arith) (omega arith) bk.rest))

          begun : Walk E []
          begun = walk_back [] X E m stores_return bk

          calmed_as : (o' : Calm) → o ≡ o' → Calmed (log_of v Z) (locals_of Z) (pos_of Z) (cells_of Z) (vars_of Z) (olds_of Z) m b n o'
          calmed_as o' e = subst (Calmed (log_of v Z) (locals_of Z) (pos_of Z) (cells_of Z) (vars_of Z) (olds_of Z) m b n) e q

          pub stores_silent : o ≡ Silent → Said W B g j true E
          stores_silent e = (record { right = λ lab d fr. inner_silent W B (ranges_from W 0 g) (ranges_from W g (j + 1)) all_can start Y u n a outer Z v m b inner (locals_at W g) marking (calmed_as Silent e) lab fr }, begun, out_all)

          pub stores_loud : o ≡ Loudly → Said W B g j false E
          stores_loud e = (record { right = λ lab d fr. inner_loud W B (ranges_from W 0 g) (ranges_from W g (j + 1)) all_can start Y u n a outer Z v m b inner (locals_at W g) marking (calmed_as Loudly e) lab fr }, begun, out_all)

          -- there is room
          pub stores_room : o ≡ NoSpace → Said W B g j false E
          stores_room e = absurd (inner_room W B (ranges_from W 0 g) (ranges_from W g (j + 1)) all_can start Y u n a outer Z v m b inner (calmed_as NoSpace e))

-- the locals inside the goal are marked before, and unmarked afterwards
pub can_marked : {W : List Word} {L A : List ℕ} {g j : ℕ} → Idle L → Given L (locals_at W g) 1 A → Roomy W → (g ≤ j) × (j < length W) → RoomFor W (ranges_from W 0 g ++ ranges_from W g (j + 1)) → CanQuiet W A g j
can_marked i v r o m = record { walk = walk_beside [] _ _ 401408 i.walk v.rest; marks = marked_now v i.unmarked; roomy = r; order = o.0; low = o.1; room = m }

pub quiet_idle : {W : List Word} {L A X Y : List ℕ} {g j : ℕ} {r : Bool} → Idle L → Given L (locals_at W g) 1 A → Said W A g j r X → Given X (locals_at W g) 0 Y → QuietIn W g j r × Idle Y × Outside 0 401408 L Y
quiet_idle {W} {L} {A} {X} {Y} {g} i v s z = (
  s.0,
  record { walk = walk_beside [] _ _ 401408 s.1 z.rest; unmarked = unmarked_now z (marks_kept (locals_at W g) s.2 (marked_now v i.unmarked)) },
  outside_then (outside_wide 0 401408 (omega arith) (omega arith) v.rest) (outside_then (outside_wide 0 401408 (omega arith) (omega arith) s.2) (outside_wide 0 401408 (omega arith) (omega arith) z.rest)),
)
