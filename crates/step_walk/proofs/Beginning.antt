-- The goal's environment told: the walk can begin, or no and-box of the goal has a solution. Assumes nothing.
use mathlib.Core.Path.{◌≡◌, refl, ap, sym, ◌∙◌, subst}
use mathlib.Core.Logic.{inl}
use mathlib.Core.Bool.{Bool, true, false}
use mathlib.Core.List.{List, [], ◌∷◌, ◌++◌}
use Prim.Native.Nat.{ℕ, ◌+◌, ◌-◌, ◌≤◌, ◌<◌}
use native.Mathlib.Omega.{arith}
use native.Mathlib.Decide.{dec_lt}
use Rattle.constraint.specs.Constraint.{Sats}
use Rattle.constraint.proofs.Entail.{sats_append}
use Rattle.mem_words.specs.declared.Word.{Word}
use Rattle.mem_sorts.specs.declared.Kind.TheVariants.{And}
use Rattle.solve_tells.proofs.Rooms.{drawn_none}
use Rattle.solve_quiet.specs.Solver.{Marking}
use Rattle.work_tables.specs.Tables.{log_of, locals_of, length_log}
use Rattle.work_marks.specs.Marks.{Walk, Returns}
use Rattle.work_enter.specs.Enters.{At}
use Rattle.rule_words.specs.Scans.{close}
use Rattle.rule_effects.specs.Effects.{behind}
use Rattle.rule_effects.specs.Conditions.{kind_at}
use Rattle.rule_ranges.specs.Ranges.{ranges_from, told_all, locals_at}
use Rattle.rule_ranges.specs.Asked.{SatIn}
use Rattle.rule_ranges.proofs.Drawing.{from_drawn}
use Rattle.rule_tells.specs.declared.Around.{Around}
use Rattle.rule_tells.specs.declared.Around.TheVariants.{All, Failed}
use Rattle.rule_tells.specs.Telling.{CanTellAll, Onward, AllOf, NoneOf, ToldAll}
use Rattle.rule_tells.proofs.Adding.{told_more}
use Rattle.rule_solve.proofs.Starts.{idle_at, idle_can, env_told, none_satisfied}
use Rattle.rule_solve.proofs.Idling.{marks_kept}
use Rattle.step_open.specs.Opened.{Opened}
use Rattle.step_open.proofs.Chains.{opened_first, opened_at, chain_all}
use Rattle.step_turn.specs.Boxes.{Told, Framed}
use Rattle.step_turn.specs.Stood.{CanWalk, Stood}
use Rattle.step_walk.specs.Calm.{BoxesCalm, Boxed, Walks}
use Rattle.step_walk.proofs.Answers.{goal_last}

module _ (W : List Word) (B : List ℕ) (g : ℕ) (w : Walk B []) (c : CanWalk W g) where
  start : At B 0 0 0 []
  start = idle_at w

  pub env_can : CanTellAll W B (ranges_from W 0 g) 0 0 0
  env_can = idle_can w c.roomy c.around (from_drawn W (0 ∷ c.roomy.others) c.roomy.drawn 0 g)

  -- the walk begins
  module _ (Y : List ℕ) (u n a : ℕ) (r : Around) (er : r ≡ All u n a) (t : ToldAll W B (ranges_from W 0 g) 0 0 0 Y r) where
    all_of : AllOf W B (ranges_from W 0 g) 0 0 0 Y u n a
    all_of = (subst (ToldAll W B (ranges_from W 0 g) 0 0 0 Y) er t).answer

    on : Onward W (ranges_from W 0 g) Y u n a []
    on = all_of.on [] start

    pub stood_first : Stood W g n Y g 0 0 u n a
    unfolding Told Framed
    stood_first = record {
      env = on.news ++ [];
      brackets = [];
      outer = record {
        told = λ lab. env_told lab W (ranges_from W 0 g) on.news (on.told lab);
        words = omega (arith, on.at.is_used, all_of.words);
        apps = omega (arith, on.at.is_apps, all_of.few);
        trail = on.at.is_trail;
      };
      opened = opened_first W g;
      told = tt;
      framed = tt;
      depth = refl;
      height = refl;
      at = on.at;
      solved = λ lab. on.solved lab (none_satisfied lab);
      logged = λ us q. all_of.drawn (0 ∷ us) (drawn_none (log_of 0 B) (0 ∷ us) (inl refl) (length_log 0 start.walk.laid (record { most = omega arith }))) (from_drawn W (0 ∷ us) q 0 g);
    }

    pub walks_first : Marking (locals_of B) (locals_at W g) → Walks W g n Y g 0 0 u n a
    walks_first m = record {
      stood = stood_first;
      locals = marks_kept (locals_at W g) t.rest m;
      calm = record { at = λ i p q e. absurd (omega arith) };
    }

  -- the environment fails: what was told can be taken back
  pub env_returns : (Y : List ℕ) (m : ℕ) (r : Around) → r ≡ Failed m → ToldAll W B (ranges_from W 0 g) 0 0 0 Y r → Returns Y m []
  env_returns Y m r er t = let n : NoneOf W B (ranges_from W 0 g) 0 0 0 Y m = (subst (ToldAll W B (ranges_from W 0 g) 0 0 0 Y) er t).answer in n.returns [] start

  pub env_none : (Y : List ℕ) (m : ℕ) (r : Around) (b : Bool) → r ≡ Failed m → ToldAll W B (ranges_from W 0 g) 0 0 0 Y r → Boxed W g b → BoxesCalm W g b
  env_none Y m r b er t x = record { calm = λ e j p q k. absurd (x.none e j p q k); loud = λ e. let y = x.some e in (y.0, y.1, y.2, y.3, inl (unsolved y.0 y.1 y.2 y.3)) }
    where
      none : NoneOf W B (ranges_from W 0 g) 0 0 0 Y m
      none = (subst (ToldAll W B (ranges_from W 0 g) 0 0 0 Y) er t).answer

      open_at : (j : ℕ) → g ≤ j → j ≤ close W g → (os : List ℕ) × Opened W g j os
      open_at j p q =
          let o = opened_at W g c.first (j - g) (omega arith) (omega (arith, c.whole)) in
          let e : g + (j - g) ≡ j = omega arith in
          (o.0, subst (λ (i : ℕ). Opened W g i o.0) e o.1)

      unsolved : (j : ℕ) → g ≤ j → j < behind W g → kind_at W j And ≡ true → SatIn W j false
      unsolved j p q k = go (dec_lt j (close W g))
        where
          go : Dec (j < close W g) → SatIn W j false
          go (no l) =
              let e : j ≡ close W g = omega arith in
              absurd (goal_last W g (open_at (close W g) (omega arith) (omega arith)).0 c (open_at (close W g) (omega arith) (omega arith)).1 (subst (λ (i : ℕ). kind_at W i And ≡ true) e k))
          go (yes l) =
              let o = open_at (j + 1) (omega arith) (omega arith) in
              record { right = λ lab d s. none.none [] start lab d (s.0, ((sats_append s.0 (told_all lab W (ranges_from W g (j + 1))) (told_all lab W (ranges_from W 0 g))).0 (subst (Sats s.0) (ap (told_all lab W) (chain_all W g (j + 1) o.0 o.1.chain) ∙ told_more lab W (ranges_from W g (j + 1)) (ranges_from W 0 g)) s.1)).1) }
