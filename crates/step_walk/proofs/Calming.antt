-- The walk behind a word: what was told since the goal's environment is asked to be quiet where an and-box was entered. Assumes nothing.
use mathlib.Core.Path.{◌≡◌, sym, ◌∙◌, subst}
use mathlib.Core.Bool.{Bool, true, false}
use mathlib.Core.List.{List, ◌++◌}
use Prim.Native.Nat.{ℕ, ◌+◌, ◌≤◌, ◌<◌}
use native.Mathlib.Omega.{arith}
use native.Mathlib.Decide.{ℕ_discrete}
use Rattle.constraint.specs.Tree.{Label}
use Rattle.constraint.specs.Constraint.{Satisfiable, Fresh}
use Rattle.mem_words.specs.declared.Word.{Word}
use Rattle.mem_sorts.specs.declared.Kind.TheVariants.{And}
use Rattle.mem_parts.specs.Parts.{outside_wide}
use Rattle.solve_quiet.specs.Solver.{Marking}
use Rattle.work_tables.specs.Tables.{locals_of, tried_log, tried_locals}
use Rattle.work_marks.specs.Marks.{Mark, all_told}
use Rattle.work_marks.proofs.Verdicts.{lower_satisfiable}
use Rattle.work_enter.specs.Enters.{At}
use Rattle.rule_effects.specs.Conditions.{kind_at}
use Rattle.rule_ranges.specs.Ranges.{locals_at}
use Rattle.rule_ranges.specs.Asked.{SatIn, QuietIn}
use Rattle.rule_ranges.proofs.Alike.{alike_same}
use Rattle.step_open.proofs.Turns.{false_true}
use Rattle.step_frames.specs.Frames.{same_frames}
use Rattle.step_quiet.specs.Silence.{CanSilence, Silence}
use Rattle.step_turn.specs.Stood.{CanWalk, Stood}
use Rattle.step_turn.proofs.Stores.{since, marks_since, stores_alike}
use Rattle.step_turn.proofs.Standing.{stood_sat, stood_still, quiet_alike}
use Rattle.step_walk.specs.Calm.{CalmTo, Walks}

calm_next : (W : List Word) (g j : ℕ) → CalmTo W g j → (kind_at W j And ≡ true → SatIn W j true × QuietIn W g j true) → CalmTo W g (j + 1)
calm_next W g j p h = record { at = λ i a b e. go i a b e (ℕ_discrete j i) }
  where
    go : (i : ℕ) → g ≤ i → i < j + 1 → kind_at W i And ≡ true → Dec (j ≡ i) → SatIn W i true × QuietIn W g i true
    go i a b e (yes q) = subst (λ (x : ℕ). kind_at W x And ≡ true → SatIn W x true × QuietIn W g x true) q h e
    go i a b e (no q) = p.at i a (omega arith) e

module _ (W : List Word) (g from : ℕ) (X : List ℕ) (j d k u m b : ℕ) (s : Stood W g from X (j + 1) d k u m b) where
  at_since : At X u m b (since s.brackets ++ s.env)
  at_since = subst (At X u m b) (marks_since s.env s.brackets) s.at

  pub ask_can : CanWalk W g → CanSilence X u m b from
  ask_can c = record {
    news = since s.brackets;
    below = s.env;
    at = at_since;
    since = s.outer.trail;
    others = c.roomy.others;
    logged = s.logged c.roomy.others c.roomy.drawn;
    trail = c.roomy.trail;
  }

  env_solved : (lab : ℕ → Label) → Satisfiable (all_told lab s.env)
  env_solved lab = lower_satisfiable lab (since s.brackets) s.env (subst (λ (l : List Mark). Satisfiable (all_told lab l)) (marks_since s.env s.brackets) (s.solved lab))

  -- the locals inside the goal are marked in the tables before the turn, and the turn left them as they were
  module _ (L : List ℕ) (el : locals_of X ≡ locals_of L) (ml : Marking (locals_of L) (locals_at W g)) (cl : CalmTo W g j) where
    marking : Marking (locals_of X) (locals_at W g)
    marking = subst (λ (l : List ℕ). Marking l (locals_at W g)) (sym el) ml

    -- no and-box begins there
    pub walks_else : (r : Bool) → r ≡ kind_at W j And → r ≡ false → Walks W g from X (j + 1) d k u m b
    walks_else r e z = record { stood = s; locals = marking; calm = calm_next W g j cl (λ h. absurd (false_true (sym z ∙ e ∙ h))) }

    -- one does
    module _ (Y : List ℕ) (r : Bool) (q : Silence X u m b from Y r) where
      pub box_quiet : QuietIn W g j r
      box_quiet = record {
        right = λ lab h fr.
            quiet_alike r (locals_at W g) (alike_same (sym (s.outer.told lab))) (stores_alike W g s.env lab (j + 1) s.brackets s.opened.chain s.told)
            (q.right (since s.brackets) s.env at_since s.outer.trail lab (locals_at W g) marking (subst (Fresh (locals_at W g)) (sym (s.outer.told lab)) fr) (env_solved lab));
      }

      -- the walk is where it was
      pub stood_asked : Stood W g from Y (j + 1) d k u m b
      stood_asked = stood_still q.still (same_frames (outside_wide 0 335872 (omega arith) (omega arith) q.rest)) (tried_log u q.rest) s

      pub marks_asked : Marking (locals_of Y) (locals_at W g)
      marks_asked = subst (λ (l : List ℕ). Marking l (locals_at W g)) (sym (tried_locals q.rest)) marking

      pub walks_box : r ≡ true → Walks W g from Y (j + 1) d k u m b
      walks_box z = record {
        stood = stood_asked;
        locals = marks_asked;
        calm = calm_next W g j cl (λ h. (stood_sat s, subst (QuietIn W g j) z box_quiet));
      }
