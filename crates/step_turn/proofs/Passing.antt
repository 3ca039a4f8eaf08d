-- The walk behind a word that is no and-box's first. Assumes nothing.
use mathlib.Core.Path.{◌≡◌, refl, ap, sym, ◌∙◌, subst}
use mathlib.Core.Bool.{true, false}
use mathlib.Core.List.{List, [], ◌∷◌}
use Prim.Native.Nat.{ℕ, ◌+◌, ◌-◌, ◌<◌}
use native.Mathlib.Omega.{arith}
use lib.ListN.{length, get_or}
use Rattle.constraint.specs.Tree.{Label}
use Rattle.constraint.specs.Constraint.{Satisfiable}
use Rattle.mem_words.specs.declared.Word.{Word}
use Rattle.mem_words.specs.declared.Word.TheVariants.{Bad}
use Rattle.mem_sorts.specs.declared.Kind.TheVariants.{And}
use Rattle.mem_parts.specs.Parts.{outside_wide}
use Rattle.solve_tells.specs.Draws.{Drawn}
use Rattle.work_tables.specs.Tables.{log_of, moved_log}
use Rattle.work_marks.specs.Marks.{used_at, all_told}
use Rattle.work_marks.proofs.Verdicts.{lower_satisfiable}
use Rattle.work_marks.proofs.Rooms.{drawn_fewer}
use Rattle.work_enter.specs.Enters.{At}
use Rattle.rule_words.specs.Scans.{opens, closes, close}
use Rattle.rule_effects.specs.Conditions.{kind_at}
use Rattle.step_open.specs.Opened.{Opened}
use Rattle.step_open.proofs.Turns.{false_true, opening_closes}
use Rattle.step_open.proofs.Chains.{opened_in, opened_out, opened_keep, opened_none}
use Rattle.step_frames.specs.Frames.{frames_of, same_frames}
use Rattle.step_turn.specs.declared.Stand.{Stand}
use Rattle.step_turn.specs.Boxes.{Bracket, plain, box, places, marks, inner, boxes, Told, Framed}
use Rattle.step_turn.specs.Stood.{CanWalk, Stood}
use Rattle.step_turn.specs.Leaving.{CanLeave, Left}
use Rattle.step_turn.proofs.Stores.{boxes_few}

module _ (W : List Word) (g from : ℕ) (X : List ℕ) (j d k used n a : ℕ) (c : CanWalk W g) (s : Stood W g from X j d k used n a) (low : j < close W g) where
  short : j < length W
  short = omega (arith, c.whole)

  -- it opens a bracket
  pub opens_on : opens (get_or W j Bad) 0 ≡ true → kind_at W j And ≡ false → Stood W g from X (j + 1) (d + 1) k used n a
  unfolding Told Framed
  opens_on e f = record {
    env = s.env;
    brackets = plain j ∷ s.brackets;
    outer = s.outer;
    opened = opened_in W g j short (places s.brackets) e s.opened;
    told = (f, s.told);
    framed = s.framed;
    depth = omega (arith, s.depth);
    height = s.height;
    at = s.at;
    solved = s.solved;
    logged = s.logged;
  }

  -- it neither opens nor closes one
  pub else_on : opens (get_or W j Bad) 0 ≡ false → closes (get_or W j Bad) 0 ≡ false → Stood W g from X (j + 1) d k used n a
  else_on e f = record {
    env = s.env;
    brackets = s.brackets;
    outer = s.outer;
    opened = opened_keep W g c.first j short (places s.brackets) e f s.opened;
    told = s.told;
    framed = s.framed;
    depth = s.depth;
    height = s.height;
    at = s.at;
    solved = s.solved;
    logged = s.logged;
  }

  -- it closes one
  module _ (e : closes (get_or W j Bad) 0 ≡ true) where
    some_open : Opened W g j [] → ⊥
    some_open p = false_true (opening_closes (get_or W g Bad) 0 c.first ∙ ap (λ (x : ℕ). closes (get_or W x Bad) 0) (sym (opened_none W g j p)) ∙ e)

    -- another one than an and-box
    pub closes_on : (d ≡ 0 → ⊥) → Stood W g from X (j + 1) (d - 1) k used n a
    unfolding Told Framed
    closes_on z = go s.brackets s.opened s.told s.framed s.depth s.height s.at s.solved
      where
        go : (bs : List Bracket) → Opened W g j (places bs) → Told W s.env bs → Framed (frames_of X) s.env bs → inner bs ≡ d → boxes bs ≡ k → At X used n a (marks s.env bs) → ((lab : ℕ → Label) → Satisfiable (all_told lab (marks s.env bs))) → Stood W g from X (j + 1) (d - 1) k used n a
        go [] p t f h b q v = absurd (some_open p)
        go (plain o ∷ bs) p t f h b q v = record {
          env = s.env;
          brackets = bs;
          outer = s.outer;
          opened = opened_out W g j short o (places bs) e low p;
          told = t.1;
          framed = f;
          depth = omega (arith, h);
          height = b;
          at = q;
          solved = v;
          logged = s.logged;
        }
        go (box o ns ∷ bs) p t f h b q v = absurd (z (sym h))

    -- the innermost and-box
    pub leave_can : d ≡ 0 → CanLeave X k n
    unfolding Told Framed
    leave_can z = go s.brackets s.opened s.told s.framed s.depth s.height s.at
      where
        go : (bs : List Bracket) → Opened W g j (places bs) → Told W s.env bs → Framed (frames_of X) s.env bs → inner bs ≡ d → boxes bs ≡ k → At X used n a (marks s.env bs) → CanLeave X k n
        go [] p t f h b q = absurd (some_open p)
        go (plain o ∷ bs) p t f h b q = absurd (omega (arith, h, z))
        go (box o ns ∷ bs) p t f h b q = record {
          height = boxes bs;
          some = sym b;
          few = omega (arith, b, boxes_few W g s.env (box o ns ∷ bs) t, q.walk.room);
          depth = inner bs;
          news = ns;
          below = marks s.env bs;
          over = record { used = used; apps = a; at = q; frame = f.0 };
        }

    pub leave_on : d ≡ 0 → (Y : List ℕ) (r : Stand) → Left X k n Y r → Stood W g from Y (j + 1) r.depth r.boxes r.mark.used r.mark.trail r.mark.applications
    unfolding Told Framed
    leave_on z Y r l = go s.brackets s.opened s.told s.framed s.depth s.height s.at s.solved
      where
        stack : frames_of Y ≡ frames_of X
        stack = same_frames (outside_wide 0 335872 (omega arith) (omega arith) l.rest)

        go : (bs : List Bracket) → Opened W g j (places bs) → Told W s.env bs → Framed (frames_of X) s.env bs → inner bs ≡ d → boxes bs ≡ k → At X used n a (marks s.env bs) → ((lab : ℕ → Label) → Satisfiable (all_told lab (marks s.env bs))) → Stood W g from Y (j + 1) r.depth r.boxes r.mark.used r.mark.trail r.mark.applications
        go [] p t f h b q v = absurd (some_open p)
        go (plain o ∷ bs) p t f h b q v = absurd (omega (arith, h, z))
        go (box o ns ∷ bs) p t f h b q v =
            let m = marks s.env bs in
            let y = l.back (boxes bs) (inner bs) ns m (sym b) (record { used = used; apps = a; at = q; frame = f.0 }) in
            record {
              env = s.env;
              brackets = bs;
              outer = s.outer;
              opened = opened_out W g j short o (places bs) e low p;
              told = t.2;
              framed = subst (λ (F : List ℕ). Framed F s.env bs) (sym stack) f.1;
              depth = sym y.0;
              height = sym y.1;
              at = y.2;
              solved = λ lab. lower_satisfiable lab ns m (v lab);
              logged = λ us w. subst (λ (u : ℕ). Drawn (log_of u Y) (0 ∷ us)) y.2.is_used (subst (λ (x : List Word). Drawn x (0 ∷ us)) (sym (moved_log (used_at m) l.rest)) (drawn_fewer (used_at m) used X (0 ∷ us) q.walk.laid (omega (arith, q.is_used, t.1.words)) (omega (arith, q.is_used, q.walk.room)) (s.logged us w)));
            }
