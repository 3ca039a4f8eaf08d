-- A walk over the working slice: its beginning, a store pushed, marks returned to. Assumes nothing.
use mathlib.Core.Path.{◌≡◌, refl, ap, sym, ◌∙◌, subst}
use mathlib.Core.Logic.{◌⊎◌, inl, inr}
use mathlib.Core.List.{List, [], ◌∷◌, ◌++◌, append_assoc}
use Prim.Native.Nat.{ℕ, zero, suc, ◌+◌, ◌-◌, ◌*◌, ◌≤◌, ◌<◌}
use native.Mathlib.Omega.{arith}
use lib.ListN.{length, get_or, take, length-append}
use lib.Seq.{take_at}
use Rattle.constraint.specs.Tree.{Label}
use Rattle.constraint.specs.Constraint.{Store}
use Rattle.mem_numbers.specs.Numbers.{shorts, triples, longs}
use Rattle.mem_words.specs.declared.Word.{Word}
use Rattle.mem_words.specs.declared.Word.TheVariants.{Bad}
use Rattle.mem_words.specs.Words.{words}
use Rattle.mem_copies.specs.Runs.{run, length_run}
use Rattle.mem_parts.specs.Parts.{Outside, cut_left}
use Rattle.solve_classes.specs.Means.{OldVars}
use Rattle.solve_fields.specs.Read.{Vars, var_of}
use Rattle.solve_tells.specs.Tells.{State, Means, Left, Done, Clashed, Stopped, Telling, CanBack, range_of, apps_in}
use Rattle.solve_tells.specs.declared.Told.{Told}
use Rattle.solve_tells.specs.declared.Told.TheVariants.{All, Failed, NoRoom}
use Rattle.solve_quiet.specs.Solver.{Kept}
use Rattle.solve_quiet.proofs.Verdict.{start_state, start_means}
use Rattle.work_tables.specs.Tables.{cells_of, vars_of, olds_of, pos_of, log_of, Laid, Logged, Searched, Tried, laid_after, length_log, length_cell, length_pos, moved_log, moved_pos, tried_log, tried_pos, searched_tried}
use Rattle.work_log.specs.Logs.{stop, log_append}
use Rattle.work_ranges.specs.Backs.{BackIn}
use Rattle.work_grows.proofs.Growing.{means_more}
use Rattle.work_grows.proofs.Closing.{closed_next, closed_none}
use Rattle.work_quiet.specs.Quiets.{kept_searched}
use Rattle.work_walk.specs.Pushes.{CanPush, Pushed, longer, pushed_range}
use Rattle.work_marks.specs.Marks.{Mark, trail_at, apps_at, used_at, all_told, range_told, after, Here, Under, Stand, Walk, Returns}
use Rattle.work_marks.proofs.Standing.{stand_here, stand_over, stand_at, under_here, under_then, kept_left}

vars_zero : (W : List Word) (s : ℕ) → length W ≡ 0 → 0 < s → Vars W s
vars_zero W s e z = record { low = go W e }
  where
    go : (U : List Word) → length U ≡ 0 → (i : ℕ) → var_of (get_or U i Bad) < s
    go [] h i = z
    go (w ∷ U) h i = absurd (omega arith)

-- a walk begins on cells that are zero
pub walk_none : (L : List ℕ) → Laid L → ((x : ℕ) → get_or (cells_of L) x 0 ≡ 0) → Walk L []
walk_none L h z =
    let w : length (log_of 0 L) ≡ 0 = length_log 0 h (record { most = omega arith }) in
    let c = length_cell h in
    let p = length_pos h in
    record {
      laid = h;
      room = omega arith;
      stand = record {
        state = start_state (log_of 0 L) (pos_of L) (cells_of L) (vars_of L) (olds_of L) z (omega arith) (omega arith) (omega arith) (vars_zero (log_of 0 L) (length (cells_of L)) w (omega arith));
        closed = closed_none (log_of 0 L) (pos_of L);
        words = w;
        means = start_means (log_of 0 L) (pos_of L) (cells_of L) (vars_of L) (olds_of L) z;
      };
    }

-- a store may be pushed if the log has room for it and its variables have cells
pub walk_can_push : (ms : List Mark) (S : List Word) (L : List ℕ) (from len : ℕ) → Walk L ms → from + len ≤ length S → used_at ms + len + 3 ≤ 24576 → Vars S 65536 → CanPush S L (used_at ms) (trail_at ms) (apps_at ms) from len
walk_can_push ms S L from len w s r v = record { room = record { laid = w.laid; source = s; room = r }; state = (stand_here ms _ _ _ _ _ w.stand).state; vars = v }

-- the walk has one mark more after it, with the constraints of the range
module _ (ms : List Mark) (S : List Word) (L X : List ℕ) (from len : ℕ) (w : Walk L ms) (c : CanPush S L (used_at ms) (trail_at ms) (apps_at ms) from len) where
  H : Here ms (log_of (used_at ms) L) (pos_of L) (cells_of L) (vars_of L) (olds_of L)
  H = stand_here ms (log_of (used_at ms) L) (pos_of L) (cells_of L) (vars_of L) (olds_of L) w.stand

  pub more_means : (lab : ℕ → Label) → Means lab (longer S L (used_at ms) from len) (pos_of L) (cells_of L) (all_told lab ms)
  more_means lab = means_more lab (log_of (used_at ms) L) (run from len S ++ stop) (pos_of L) (cells_of L) (apps_at ms) (all_told lab ms) H.closed H.state.apps (H.means lab)

  pub walk_pushed : (n a : ℕ) → Pushed S L (used_at ms) (trail_at ms) (apps_at ms) from len X (All n a) → Walk X (after ms S from len n a ∷ ms)
  walk_pushed n a p =
      let d = p.told in
      let k = c.room.room in
      let lr : length (run from len S) ≡ len = length_run from len S c.room.source in
      let lx : Laid X = laid_after w.laid p.rest in
      let ll : length (log_of (used_at ms + len + 3) X) ≡ used_at ms + len + 3 = length_log (used_at ms + len + 3) lx (record { most = k }) in
      record {
        laid = lx;
        room = k;
        stand = stand_at (after ms S from len n a ∷ ms) (sym p.log) refl refl refl refl (
          record {
            state = d.state;
            closed = closed_next (log_of (used_at ms) L) (run from len S) (pos_of L) (pos_of X) (apps_at ms) a H.closed d.left.old_p (λ j g h. omega (arith, p.ahead j g h, H.words, lr));
            words = sym (ap length p.log) ∙ ll;
            means = λ lab. subst (λ (σ : Store). Means lab (longer S L (used_at ms) from len) (pos_of X) (cells_of X) (all_told lab ms ++ σ)) (pushed_range S L (used_at ms) (trail_at ms) (apps_at ms) from len c lab) (d.means lab (all_told lab ms) (more_means lab));
          },
          record { words = log_of (used_at ms) L; more = run from len S ++ stop; log = refl; pos = pos_of L; cells = cells_of L; vars = vars_of L; olds = olds_of L; stood = w.stand; left = d.left },
        );
      }

-- the first words of the log
log_prefix : (j k : ℕ) (L : List ℕ) (A R : List Word) → Laid L → k ≤ 24576 → log_of k L ≡ A ++ R → length A ≡ j → A ≡ log_of j L
log_prefix j k L A R h l e m =
    let g = h.long in
    let lk : length (log_of k L) ≡ k = length_log k h (record { most = l }) in
    let la : length (A ++ R) ≡ length A + length R = length-append A R in
    let q : length (log_of k L) ≡ length (A ++ R) = ap length e in
    let b : j ≤ k = omega arith in
    let lj : length (log_of j L) ≡ j = length_log j h (record { most = omega arith }) in
    let z : j + (k - j) ≡ k = omega arith in
    sym (take_at A R j m) ∙ ap (take j) (sym e ∙ sym (ap (λ (i : ℕ). log_of i L) z) ∙ log_append j (k - j) L (omega arith)) ∙ take_at (log_of j L) _ j lj

-- every mark of a walk can be returned to
pub walk_returns : (news ms : List Mark) (L : List ℕ) → Walk L (news ++ ms) → Returns L (trail_at (news ++ ms)) ms
walk_returns news ms L w = record { laid = w.laid; used = used_at (news ++ ms); room = w.room; apps = apps_at (news ++ ms); under = under_then news ms _ _ _ _ _ _ _ (under_here (news ++ ms) _ _ _ _ _ w.stand) }

-- what can be brought back to a mark can be brought back to those below it
pub returns_below : (news ms : List Mark) (L : List ℕ) (n : ℕ) → Returns L n (news ++ ms) → Returns L n ms
returns_below news ms L n r = record { laid = r.laid; used = r.used; room = r.room; apps = r.apps; under = under_then news ms _ _ _ _ _ _ _ r.under }

-- and so can it after a push that left its changes, whatever it answered
left_returns : (news ms : List Mark) (S : List Word) (L X : List ℕ) (from len n a : ℕ) → Walk L (news ++ ms) → used_at (news ++ ms) + len + 3 ≤ 24576 → Outside 16384 335872 L X → log_of (used_at (news ++ ms) + len + 3) X ≡ longer S L (used_at (news ++ ms)) from len
    → Left (longer S L (used_at (news ++ ms)) from len) (pos_of L) (cells_of L) (vars_of L) (olds_of L) (trail_at (news ++ ms)) (apps_at (news ++ ms)) (pos_of X) (cells_of X) (vars_of X) (olds_of X) n a → Returns X n ms
left_returns news ms S L X from len n a w k o e l = record {
  laid = laid_after w.laid o;
  used = used_at (news ++ ms) + len + 3;
  room = k;
  apps = a;
  under = under_then news ms (log_of (used_at (news ++ ms) + len + 3) X) (pos_of X) (cells_of X) (vars_of X) (olds_of X) n a (record {
    words = log_of (used_at (news ++ ms)) L;
    more = run from len S ++ stop;
    log = e;
    pos = pos_of L;
    cells = cells_of L;
    vars = vars_of L;
    olds = olds_of L;
    stood = w.stand;
    left = subst (λ (U : List Word). Left U (pos_of L) (cells_of L) (vars_of L) (olds_of L) (trail_at (news ++ ms)) (apps_at (news ++ ms)) (pos_of X) (cells_of X) (vars_of X) (olds_of X) n a) (sym e) l;
  });
}

pub failed_returns : (news ms : List Mark) (S : List Word) (L X : List ℕ) (from len n a : ℕ) → Walk L (news ++ ms) → CanPush S L (used_at (news ++ ms)) (trail_at (news ++ ms)) (apps_at (news ++ ms)) from len → Pushed S L (used_at (news ++ ms)) (trail_at (news ++ ms)) (apps_at (news ++ ms)) from len X (Failed n a) → Returns X n ms
failed_returns news ms S L X from len n a w c p = left_returns news ms S L X from len n a w c.room.room p.rest p.log p.told.left

pub stopped_returns : (news ms : List Mark) (S : List Word) (L X : List ℕ) (from len n a : ℕ) → Walk L (news ++ ms) → CanPush S L (used_at (news ++ ms)) (trail_at (news ++ ms)) (apps_at (news ++ ms)) from len → Pushed S L (used_at (news ++ ms)) (trail_at (news ++ ms)) (apps_at (news ++ ms)) from len X (NoRoom n a) → Returns X n ms
stopped_returns news ms S L X from len n a w c p = left_returns news ms S L X from len n a w c.room.room p.rest p.log p.told.left

-- `back` may be called, and the walk is that of the mark again
pub returns_can_back : (ms : List Mark) (L : List ℕ) (n : ℕ) → Returns L n ms → CanBack (cells_of L) (vars_of L) (olds_of L) n (trail_at ms)
returns_can_back ms L n r =
    let s = r.under.left.step in
    record { le = s.grown.le; fit_x = omega (arith, s.fit_x, s.grown.size_x); fit_c = omega (arith, s.fit_c, s.grown.size_c); vars = subst (λ (k : ℕ). OldVars (vars_of L) (trail_at ms) n k) (sym s.grown.size_t) s.vars }

pub walk_back : (ms : List Mark) (L X : List ℕ) (n : ℕ) → Returns L n ms → BackIn L n (trail_at ms) X → Walk X ms
walk_back ms L X n r b =
    let u = r.under in
    let h = stand_here ms u.words u.pos u.cells u.vars u.olds u.stood in
    let ew : u.words ≡ log_of (used_at ms) L = log_prefix (used_at ms) r.used L u.words u.more r.laid r.room u.log h.words in
    let lk : length (log_of r.used L) ≡ r.used = length_log r.used r.laid (record { most = r.room }) in
    let la : length (u.words ++ u.more) ≡ length u.words + length u.more = length-append u.words u.more in
    let q : length (log_of r.used L) ≡ length (u.words ++ u.more) = ap length u.log in
    record {
      laid = laid_after r.laid b.rest;
      room = omega (arith, h.words, r.room);
      stand = stand_at ms (ew ∙ sym (moved_log (used_at ms) b.rest)) (sym (moved_pos b.rest)) (sym ((b.back (log_of r.used L) (pos_of L)).same u.pos u.cells u.vars u.olds (apps_at ms) r.apps u.left)) (sym b.vars) (sym b.olds)
          (stand_over ms u.words (log_of r.used L) u.pos u.cells u.vars u.olds (pos_of L) (cells_of L) (vars_of L) (olds_of L) n r.apps u.left u.stood);
    }

-- after `quiet` the walk is as it was, and so it is after `satisfiable`
pub walk_kept : (ms : List Mark) (L X : List ℕ) → Walk L ms → Kept (cells_of L) (vars_of L) (olds_of L) (trail_at ms) (cells_of X) (vars_of X) (olds_of X) → Tried L X → Walk X ms
walk_kept ms L X w k t =
    let H = stand_here ms (log_of (used_at ms) L) (pos_of L) (cells_of L) (vars_of L) (olds_of L) w.stand in
    let k₁ : Kept (cells_of L) (vars_of L) (olds_of L) (trail_at ms) (cells_of L) (vars_of X) (olds_of X) = record { cells = refl; size_x = k.size_x; size_c = k.size_c; old_x = k.old_x; old_c = k.old_c } in
    record {
      laid = laid_after w.laid t;
      room = w.room;
      stand = stand_at ms (sym (tried_log (used_at ms) t)) (sym (tried_pos t)) (sym k.cells) refl refl
          (stand_over ms (log_of (used_at ms) L) (log_of (used_at ms) L) (pos_of L) (cells_of L) (vars_of L) (olds_of L) (pos_of L) (cells_of L) (vars_of X) (olds_of X) (trail_at ms) (apps_at ms) (kept_left (log_of (used_at ms) L) (pos_of L) (cells_of L) (vars_of L) (olds_of L) (trail_at ms) (apps_at ms) (vars_of X) (olds_of X) H.state k₁) w.stand);
    }

pub walk_searched : (ms : List Mark) (L X : List ℕ) → Walk L ms → Searched L X → Walk X ms
walk_searched ms L X w s = walk_kept ms L X w (kept_searched (trail_at ms) s) (searched_tried s)

-- and after a change behind the log: marks of locals, what walks and answers need
pub walk_beside : (ms : List Mark) (L X : List ℕ) (e : ℕ) → Walk L ms → Outside 335872 e L X → Walk X ms
unfolding pos_of cells_of vars_of olds_of log_of
walk_beside ms L X e w o =
    let g = w.laid.long in
    let r = w.room in
    record {
      laid = laid_after w.laid o;
      room = r;
      stand = stand_at ms (sym (ap words (cut_left 262144 (262144 + 3 * used_at ms) (omega arith) (omega arith) (omega arith) o))) (sym (ap longs (cut_left 253952 262144 (omega arith) (omega arith) (omega arith) o))) (sym (ap triples (cut_left 16384 212992 (omega arith) (omega arith) (omega arith) o))) (sym (ap shorts (cut_left 212992 229376 (omega arith) (omega arith) (omega arith) o))) (sym (ap triples (cut_left 229376 253952 (omega arith) (omega arith) (omega arith) o))) w.stand;
    }
