-- The machine over the words of lent bytes, its stack in the working slice. Assumes nothing.
use Rattle.std.specs.Prelude.{◌≡◌, refl, Bool, false, ℕ, ◌+◌, ◌-◌, ◌≤◌, ◌<◌, length, get_or, drop}
use Rattle.std.proofs.Math.Path.{ap, sym}
use Rattle.std.proofs.Common.{ap₂, ◌∙◌, subst, add-one, arith, drop_of_length-le, drop-cons}
use mathlib.Core.List.{List, [], ◌∷◌}
use Rattle.mem_words.specs.declared.Word.{Word}
use Rattle.mem_words.specs.declared.Word.TheVariants.{Bad}
use Rattle.mem_parts.specs.Parts.{Outside, outside_then}
use Rattle.check_shapes.specs.declared.Frame.{Frame}
use Rattle.check_shapes.specs.declared.Move.{Move}
use Rattle.check_shapes.specs.declared.Move.TheVariants.{Stop, Stay, Push, Pop}
use Rattle.check_shapes.specs.Machine.{step, act, is_last, ends, run}
use Rattle.check_shapes.specs.Bounds.{Bounded}
use Rattle.check_shapes.specs.Low.{LowMove}
use Rattle.check_shapes.proofs.Low.{step_low}
use Rattle.check_tables.specs.Tables.{kinds_of, arities_of, frames_of, Tabled, con_of, pred_of, def_of, tabled_after, kinds_before, arities_before, length_frames}
use Rattle.check_moves.specs.Stepping.{Steps}
use Rattle.check_frames.specs.Stack.{stack, Pushed, CanPush, Topped, CanTop, stack_none, stack_some, stack_push}

-- what the words W come to from the frame x on, by the tables of the bytes L, of m names
unfoldable pub runs : List ℕ → ℕ → Bool → List Word → Frame → List Frame → Bool
runs L m free W x st = run (con_of m (kinds_of L)) (pred_of m (kinds_of L)) (def_of m (arities_of L)) free W x st

pub record CanRun (L : List ℕ) (m : ℕ) (W : List Word) (x : Frame) : Type 0 where
  pub tables : Tabled L m
  pub short : length W ≤ 40960
  pub low : Bounded x

-- the words were read to the end, or to a word that is refused; frames alone were changed
pub record Ran (L : List ℕ) (m : ℕ) (free : Bool) (W : List Word) (x : Frame) (X : List ℕ) (r : Bool) : Type 0 where
  pub is : r ≡ runs L m free W x []
  pub rest : Outside 65536 262144 L X

-- i words were read, h brackets are open
pub record Running (L : List ℕ) (m : ℕ) (free : Bool) (W : List Word) (start : Frame) (X : List ℕ) (i h : ℕ) (x : Frame) : Type 0 where
  pub can : CanRun L m W start
  pub rest : Outside 65536 262144 L X
  pub read : i ≤ length W
  pub high : h ≤ i
  pub low : Bounded x
  pub same : runs L m free (drop i W) x (stack h (frames_of X)) ≡ runs L m free W start []

-- a word on, for any tables
run_on : (con pred : ℕ → Bool) (def : ℕ → ℕ → Bool) (free : Bool) (W : List Word) (i : ℕ) (x : Frame) (st : List Frame) (t : Word) (r : Move) → i < length W → t ≡ get_or W i Bad → r ≡ step con pred def free x t → run con pred def free (drop i W) x st ≡ act r (run con pred def free (drop (i + 1) W)) st
unfolding run
run_on con pred def free W i x st t r h e d =
    ap (λ (l : List Word). run con pred def free l x st) (drop-cons W i Bad h ∙ ap₂ (λ (u : Word) (k : ℕ). u ∷ drop k W) (sym e) (sym (add-one i)))
    ∙ ap (λ (u : Move). act u (run con pred def free (drop (i + 1) W)) st) (sym d)

module _ (L : List ℕ) (m : ℕ) (free : Bool) (W : List Word) (start : Frame) where
  pub running_none : CanRun L m W start → Running L m free W start L 0 0 start
  running_none c = record {
    can = c;
    rest = record { before = refl; after = refl; long = refl };
    read = omega arith;
    high = omega arith;
    low = c.low;
    same = ap (runs L m free W start) (stack_none (frames_of L));
  }

  module _ (X : List ℕ) (i h : ℕ) (x : Frame) (R : Running L m free W start X i h x) where
    pub tables_now : Tabled X m
    tables_now = tabled_after R.can.tables R.rest

    -- the tables of names and definitions are those of the beginning
    as_begun : (t : Word) (r : Move) → Steps X m free x t r → r ≡ step (con_of m (kinds_of L)) (pred_of m (kinds_of L)) (def_of m (arities_of L)) free x t
    as_begun t r s =
        let k : kinds_of X ≡ kinds_of L = kinds_before 65536 (omega arith) (omega arith) R.can.tables R.rest in
        let a : arities_of X ≡ arities_of L = arities_before 65536 (omega arith) (omega arith) R.can.tables R.rest in
        s.is ∙ ap₂ (λ (B A : List ℕ). step (con_of m B) (pred_of m B) (def_of m A) free x t) k a

    module _ (t : Word) (r : Move) (b : i < length W) (e : t ≡ get_or W i Bad) (s : Steps X m free x t r) where
      goes : (u : Move) → r ≡ u → act u (runs L m free (drop (i + 1) W)) (stack h (frames_of X)) ≡ runs L m free W start []
      unfolding runs
      goes u q =
          ap (λ (v : Move). act v (run (con_of m (kinds_of L)) (pred_of m (kinds_of L)) (def_of m (arities_of L)) free (drop (i + 1) W)) (stack h (frames_of X))) (sym q)
          ∙ sym (run_on (con_of m (kinds_of L)) (pred_of m (kinds_of L)) (def_of m (arities_of L)) free W i x (stack h (frames_of X)) t r b e (as_begun t r s))
          ∙ R.same

      lows : (u : Move) → r ≡ u → LowMove u
      lows u q = subst LowMove (sym (as_begun t r s) ∙ q) (step_low (con_of m (kinds_of L)) (pred_of m (kinds_of L)) (def_of m (arities_of L)) free x t R.low)

      pub going_stop : r ≡ Stop → Ran L m free W start X false
      going_stop q = record { is = goes Stop q; rest = R.rest }

      pub going_stay : (y : Frame) → r ≡ Stay y → Running L m free W start X (i + 1) h y
      going_stay y q = record { can = R.can; rest = R.rest; read = omega (arith, b); high = omega (arith, R.high); low = lows (Stay y) q; same = goes (Stay y) q }

      pub can_push : (y z : Frame) → r ≡ Push y z → CanPush X h z
      can_push y z q = record { tables = record { long = tables_now.long; names = omega arith }; room = omega (arith, R.high, b, R.can.short); left = (lows (Push y z) q).1 }

      pub going_push : (y z : Frame) (Y : List ℕ) → r ≡ Push y z → Pushed X h z Y → Running L m free W start Y (i + 1) (h + 1) y
      going_push y z Y q p =
          let n : h < length (frames_of X) = omega (arith, R.high, b, R.can.short, length_frames tables_now) in
          record {
            can = R.can;
            rest = outside_then R.rest p.rest;
            read = omega (arith, b);
            high = omega (arith, R.high);
            low = (lows (Push y z) q).0;
            same = ap (runs L m free (drop (i + 1) W) y) (stack_push h z (frames_of X) (frames_of Y) p.part n (lows (Push y z) q).1) ∙ goes (Push y z) q;
          }

      pub going_none : r ≡ Pop → h ≡ 0 → Ran L m free W start X false
      going_none q z = record { is = sym (ap (λ (k : ℕ). act Pop (runs L m free (drop (i + 1) W)) (stack k (frames_of X))) z ∙ ap (act Pop (runs L m free (drop (i + 1) W))) (stack_none (frames_of X))) ∙ goes Pop q; rest = R.rest }

      pub can_top : (h ≡ 0 → ⊥) → CanTop X (h - 1)
      can_top n = record { tables = record { long = tables_now.long; names = omega arith }; room = omega (arith, R.high, b, R.can.short) }

      pub going_pop : (y : Frame) → r ≡ Pop → (h ≡ 0 → ⊥) → Topped X (h - 1) y → Running L m free W start X (i + 1) (h - 1) y
      going_pop y q n p =
          let o : 0 < h = omega (arith, n) in
          record {
            can = R.can;
            rest = R.rest;
            read = omega (arith, b);
            high = omega (arith, R.high);
            low = p.low;
            same =
                ap (λ (z : Frame). runs L m free (drop (i + 1) W) z (stack (h - 1) (frames_of X))) p.is
                ∙ sym (ap (act Pop (runs L m free (drop (i + 1) W))) (stack_some h (frames_of X) o))
                ∙ goes Pop q;
          }

    at_last : length W ≤ i → ends x (stack h (frames_of X)) ≡ runs L m free W start []
    unfolding runs run
    at_last b = sym (ap (λ (l : List Word). run (con_of m (kinds_of L)) (pred_of m (kinds_of L)) (def_of m (arities_of L)) free l x (stack h (frames_of X))) (drop_of_length-le W b)) ∙ R.same

    pub going_end : (c : Bool) → length W ≤ i → h ≡ 0 → c ≡ is_last x → Ran L m free W start X c
    going_end c b z q = record { is = q ∙ sym (ap (λ (k : ℕ). ends x (stack k (frames_of X))) z ∙ ap (ends x) (stack_none (frames_of X))) ∙ at_last b; rest = R.rest }

    pub going_open : length W ≤ i → (h ≡ 0 → ⊥) → Ran L m free W start X false
    going_open b n = let o : 0 < h = omega (arith, n) in record { is = sym (ap (ends x) (stack_some h (frames_of X) o)) ∙ at_last b; rest = R.rest }

-- the same of what is equal
pub running_as : {L : List ℕ} {m : ℕ} {free : Bool} {W : List Word} {start : Frame} {X Y : List ℕ} {i h k : ℕ} {x y : Frame} → Y ≡ X → k ≡ h → y ≡ x → Running L m free W start X i h x → Running L m free W start Y i k y
running_as {L} {m} {free} {W} {start} {X} {Y} {i} {h} {k} {x} {y} e f g R =
    subst (λ (z : List ℕ). Running L m free W start z i k y) (sym e)
    (subst (λ (z : ℕ). Running L m free W start X i z y) (sym f)
    (subst (λ (z : Frame). Running L m free W start X i h z) (sym g) R))
