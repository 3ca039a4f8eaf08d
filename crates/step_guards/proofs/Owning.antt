-- The and-box that was entered last asked with its own locals: what was told for it, and what was told before. Assumes nothing.
use mathlib.Core.Path.{◌≡◌, ap, sym, ◌∙◌, subst}
use mathlib.Core.Bool.{Bool, true}
use mathlib.Core.List.{List, [], ◌∷◌, ◌++◌}
use Prim.Native.Nat.{ℕ, suc, ◌+◌, ◌-◌, ◌*◌, ◌≤◌}
use native.Mathlib.Omega.{arith}
use lib.ListN.{get_or}
use Rattle.constraint.specs.Tree.{Label}
use Rattle.constraint.specs.Constraint.{Satisfiable}
use Rattle.mem_words.specs.declared.Word.{Word}
use Rattle.mem_words.specs.Words.{words}
use Rattle.mem_sorts.specs.declared.Kind.TheVariants.{And}
use Rattle.mem_numbers.specs.Numbers.{shorts}
use Rattle.mem_parts.specs.Parts.{Outside, outside_then, outside_wide, cut_left, cut_right}
use Rattle.solve_tells.specs.Draws.{Drawn}
use Rattle.solve_quiet.specs.Solver.{Marking}
use Rattle.work_tables.specs.Tables.{log_of, locals_of, Laid, laid_after, tried_log, tried_locals, CanRead}
use Rattle.work_marks.specs.Marks.{Mark, trail_at, apps_at, used_at, all_told}
use Rattle.work_marks.proofs.Walking.{walk_beside}
use Rattle.work_marks.proofs.Verdicts.{lower_satisfiable}
use Rattle.work_enter.specs.Enters.{At}
use Rattle.rule_effects.specs.Conditions.{kind_at}
use Rattle.rule_ranges.specs.Ranges.{told_all, locals_at}
use Rattle.rule_ranges.specs.Asked.{QuietIn}
use Rattle.rule_ranges.proofs.Alike.{alike_same}
use Rattle.rule_locals.specs.Inside.{Given}
use Rattle.rule_locals.proofs.Givings.{marked_now, unmarked_now}
use Rattle.step_open.specs.Opened.{Chain}
use Rattle.step_open.proofs.Turns.{false_true, and_opens, around_in}
use Rattle.step_open.proofs.Chains.{range_one}
use Rattle.step_frames.specs.Frames.{frames_of, same_frames, Frame}
use Rattle.step_quiet.specs.Silence.{CanSilence, Silence}
use Rattle.step_turn.specs.Boxes.{Bracket, plain, box, places, marks, inner, boxes, Its, Told, Framed, Environment}
use Rattle.step_turn.specs.Stood.{Stood}
use Rattle.step_turn.proofs.Stores.{boxes_few, around_alike}
use Rattle.step_turn.proofs.Standing.{stood_still, quiet_alike}
use Rattle.step_guards.specs.Guards.{CanAskOwn, OwnAsked}

-- ---------------------------------------------------------------------------------------------
-- Where only the marks of locals change, the walk is where it was.

module _ {X Y : List ℕ} (h : Laid X) (p : Outside 335872 401408 X Y) where
  beside_log : (k : ℕ) → k ≤ 24576 → log_of k Y ≡ log_of k X
  unfolding log_of
  beside_log k l = ap words (cut_left 262144 (262144 + 3 * k) (omega arith) (omega arith) (omega (arith, h.long)) p)

  beside_frames : frames_of Y ≡ frames_of X
  unfolding frames_of
  beside_frames = ap shorts (cut_right 401408 466944 (omega arith) p)

  beside_at : {used n a : ℕ} (ms : List Mark) → At X used n a ms → At Y used n a ms
  beside_at ms q = record { walk = walk_beside ms X Y 401408 q.walk p; is_used = q.is_used; is_trail = q.is_trail; is_apps = q.is_apps }

  given_still : {W : List Word} {g from j d k used n a : ℕ} → Stood W g from X j d k used n a → Stood W g from Y j d k used n a
  given_still {W} {g} {from} {j} {d} {k} {used} s = stood_still (λ ms q. beside_at ms q) beside_frames (beside_log used (omega (arith, s.at.is_used, s.at.walk.room))) s

silent_still : {W : List Word} {g from j d k used n a o : ℕ} {X Y : List ℕ} {r : Bool} → Silence X used n a o Y r → Stood W g from X j d k used n a → Stood W g from Y j d k used n a
silent_still {W} {g} {from} {j} {d} {k} {used} q s = stood_still q.still (same_frames (outside_wide 0 335872 (omega arith) (omega arith) q.rest)) (tried_log used q.rest) s

-- ---------------------------------------------------------------------------------------------
-- The innermost bracket is that of the box.

record Own (W : List Word) (g from : ℕ) (X : List ℕ) (j k used n a : ℕ) : Type 0 where
  env : List Mark
  news : List Mark
  below : List Bracket
  outer : Environment W g from env
  chain : Chain W g j (places below)
  its : Its W j news (marks env below)
  told : Told W env below
  height : suc (boxes below) ≡ k
  few : 3 * k ≤ used_at (news ++ marks env below)
  frame : Frame (frames_of X) (boxes below) (inner below) (used_at (marks env below)) (trail_at (marks env below)) (apps_at (marks env below))
  at : At X used n a (news ++ marks env below)
  solved : (lab : ℕ → Label) → Satisfiable (all_told lab (news ++ marks env below))

own_of : (W : List Word) (g from : ℕ) (X : List ℕ) (j d k used n a : ℕ) → g ≤ j → kind_at W j And ≡ true → Stood W g from X (j + 1) d k used n a → Own W g from X j k used n a
unfolding Chain Told Framed
own_of W g from X j d k used n a o e s = go s.brackets s.opened.chain s.told s.framed s.height s.at s.solved
  where
    go : (bs : List Bracket) → Chain W g (j + 1) (places bs) → Told W s.env bs → Framed (frames_of X) s.env bs → boxes bs ≡ k → At X used n a (marks s.env bs) → ((lab : ℕ → Label) → Satisfiable (all_told lab (marks s.env bs))) → Own W g from X j k used n a
    go [] c t f h q v = absurd (omega (arith, c, o))
    go (plain p ∷ bs) c t f h q v = absurd (false_true (sym t.0 ∙ ap (λ (x : ℕ). kind_at W x And) (sym c.0 ∙ around_in W j (and_opens W j e)) ∙ e))
    go (box p ns ∷ bs) c t f h q v =
        let z : p ≡ j = sym c.0 ∙ around_in W j (and_opens W j e) in
        record {
          env = s.env;
          news = ns;
          below = bs;
          outer = s.outer;
          chain = subst (λ (x : ℕ). Chain W g x (places bs)) z c.3;
          its = subst (λ (x : ℕ). Its W x ns (marks s.env bs)) z t.1;
          told = t.2;
          height = h;
          few = omega (arith, boxes_few W g s.env (box p ns ∷ bs) t, h);
          frame = f.0;
          at = q;
          solved = v;
        }

own_can : {W : List Word} {X : List ℕ} {j k used n a : ℕ} (c : CanAskOwn W X j k used n a) → Own W c.goal c.from X j k used n a
own_can {W} {X} {j} {k} {used} {n} {a} c = own_of W c.goal c.from X j c.depth k used n a c.order c.kind c.stood

-- the entry of the stack
pub own_height : {W : List Word} {X : List ℕ} {j k used n a : ℕ} → CanAskOwn W X j k used n a → (1 ≤ k) × (k ≤ 8192)
own_height c = let t = own_can c in (omega (arith, t.height), omega (arith, t.few, t.at.walk.room))

pub own_read : {W : List Word} {X : List ℕ} {j k used n a : ℕ} → CanAskOwn W X j k used n a → CanRead X 32768 (4 * (k - 1) + 2)
own_read c = let h = own_height c in record { laid = c.stood.at.walk.laid; inside = omega (arith, h.0, h.1) }

own_trail : {W : List Word} {g from : ℕ} {X : List ℕ} {j k used n a : ℕ} (o : ℕ) (t : Own W g from X j k used n a) → o ≡ get_or (frames_of X) (4 * (k - 1) + 2) 0 → trail_at (marks t.env t.below) ≡ o
own_trail {W} {g} {from} {X} {j} {k} o t e =
    let z : 4 * boxes t.below + 2 ≡ 4 * (k - 1) + 2 = omega (arith, t.height) in
    sym (e ∙ ap (λ (i : ℕ). get_or (frames_of X) i 0) (sym z) ∙ t.frame.trail)

-- the question
module _ {W : List Word} {X A : List ℕ} {j k used n a : ℕ} (c : CanAskOwn W X j k used n a) (o : ℕ) (eo : o ≡ get_or (frames_of X) (4 * (k - 1) + 2) 0) (p : Given X (locals_at W j) 1 A) where
  pub own_ask : CanSilence A used n a o
  own_ask =
      let t = own_can c in
      let h = c.stood.at.walk.laid in
      let s = c.stood in
      record {
        news = t.news;
        below = marks t.env t.below;
        at = beside_at h p.rest (t.news ++ marks t.env t.below) t.at;
        since = own_trail o t eo;
        others = c.can.roomy.others;
        logged = subst (λ (l : List Word). Drawn l (0 ∷ c.can.roomy.others)) (sym (beside_log h p.rest used (omega (arith, s.at.is_used, s.at.walk.room)))) (s.logged c.can.roomy.others c.can.roomy.drawn);
        trail = c.can.roomy.trail;
      }

  pub own_laid : Laid A
  own_laid = laid_after c.stood.at.walk.laid p.rest

  -- the answer
  module _ {B Y : List ℕ} (r : Bool) (q : Silence A used n a o B r) (u : Given B (locals_at W j) 0 Y) where
    pub own_laid_then : Laid B
    own_laid_then = laid_after own_laid q.rest

    marking : Marking (locals_of X) [] → Marking (locals_of A) (locals_at W j)
    marking m = marked_now p m

    asked : (g from d : ℕ) → g ≤ j → kind_at W j And ≡ true → Stood W g from X (j + 1) d k used n a → Marking (locals_of X) [] → QuietIn W j j r
    asked g from d l e s m =
        let t = own_of W g from X j d k used n a l e s in
        let ms = marks t.env t.below in
        record {
          right = λ lab di fr.
              let al = around_alike W g t.env from t.outer lab j t.below t.chain t.told in
              quiet_alike r (locals_at W j) al (alike_same (ap (told_all lab W) (range_one W j (and_opens W j e)) ∙ sym (t.its.told lab)))
              (q.right t.news ms (beside_at s.at.walk.laid p.rest (t.news ++ ms) t.at) (own_trail o t eo) lab (locals_at W j) (marking m) ((al.fresh (locals_at W j)).0 fr) (lower_satisfiable lab t.news ms (t.solved lab)));
        }

    pub own_asked : OwnAsked W X j k used n a Y r
    own_asked = record {
      quiet = asked;
      still = λ g from d s. given_still own_laid_then u.rest (silent_still q (given_still s.at.walk.laid p.rest s));
      unmarked = λ m. unmarked_now u (subst (λ (l : List ℕ). Marking l (locals_at W j)) (sym (tried_locals q.rest)) (marking m));
      rest = outside_then (outside_then (outside_wide 0 466944 (omega arith) (omega arith) p.rest) (outside_wide 0 466944 (omega arith) (omega arith) q.rest)) (outside_wide 0 466944 (omega arith) (omega arith) u.rest);
      laid = laid_after own_laid_then u.rest;
    }
