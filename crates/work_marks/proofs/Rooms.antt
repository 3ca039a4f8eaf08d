-- Room on a walk: with 3 entries of the trail for each different variable of what is told and 2 more, and a position for each
-- application, neither a push nor the quiet test stops. Assumes nothing.
use mathlib.Core.Path.{◌≡◌, refl, ap, sym, ◌∙◌, subst}
use mathlib.Core.Logic.{inl}
use mathlib.Core.List.{List, [], ◌∷◌, ◌++◌}
use Prim.Native.Nat.{ℕ, zero, suc, ◌+◌, ◌-◌, ◌*◌, ◌≤◌, ◌<◌}
use native.Mathlib.Omega.{arith}
use native.Mathlib.Decide.{dec_lt}
use lib.ListN.{length, get_or, drop}
use lib.Seq.{drop_at}
use Rattle.constraint.specs.Constraint.{In}
use Rattle.mem_words.specs.declared.Word.{Word}
use Rattle.mem_words.specs.declared.Word.TheVariants.{End, Bad}
use Rattle.mem_copies.specs.Runs.{run, get_or_run, length_run}
use Rattle.solve_fields.specs.Read.{var_of}
use Rattle.solve_tells.specs.Draws.{Drawn}
use Rattle.solve_tells.specs.Tells.{apps_of, apps_in}
use Rattle.solve_tells.specs.declared.Told.TheVariants.{All, NoRoom}
use Rattle.solve_tells.proofs.Rooms.{stopped_never, zero_drawn, past_drawn, drawn_append, drawn_lower}
use Rattle.solve_quiet.specs.Solver.{Calmed}
use Rattle.solve_quiet.specs.declared.Calm.TheVariants.{NoSpace}
use Rattle.solve_quiet.proofs.Quietness.{crowded_never}
use Rattle.work_tables.specs.Tables.{cells_of, vars_of, olds_of, pos_of, log_of, locals_of, Laid, length_var, length_old, length_pos, length_log}
use Rattle.work_log.specs.Logs.{stop, log_append}
use Rattle.work_walk.specs.Pushes.{CanPush, Pushed, longer}
use Rattle.work_marks.specs.Marks.{Mark, trail_at, apps_at, used_at, apps_told, Walk}
use Rattle.work_marks.proofs.Standing.{stand_here}

-- the log's words have the variables of the stores that were pushed
drawn_run : (S : List Word) (from n : ℕ) (vs : List ℕ) → from + n ≤ length S → In 0 vs → Drawn S vs → Drawn (run from n S) vs
drawn_run S from n vs h z p = record { at = λ i. go i (dec_lt i n) }
  where
    go : (i : ℕ) → Dec (i < n) → In (var_of (get_or (run from n S) i Bad)) vs
    go i (yes l) = subst (λ (w : Word). In (var_of w) vs) (sym (get_or_run from n S i Bad l)) (p.at (from + i))
    go i (no l) = let m = length_run from n S h in past_drawn (run from n S) vs i z (omega arith)

drawn_stop : (vs : List ℕ) → In 0 vs → Drawn stop vs
unfolding stop
drawn_stop vs z = record { at = go }
  where
    go : (i : ℕ) → In (var_of (get_or (End ∷ (End ∷ (End ∷ []))) i Bad)) vs
    go zero = z
    go (suc zero) = z
    go (suc (suc zero)) = z
    go (suc (suc (suc i))) = z

pub drawn_range : (S : List Word) (from len : ℕ) (vs : List ℕ) → from + len ≤ length S → Drawn S vs → Drawn (run from len S ++ stop) vs
drawn_range S from len vs h s =
    let z = zero_drawn S vs s in
    drawn_append (run from len S) stop vs (drawn_run S from len vs h z s) (drawn_stop vs z)

pub drawn_longer : (S : List Word) (L : List ℕ) (used from len : ℕ) (vs : List ℕ) → from + len ≤ length S → Drawn (log_of used L) vs → Drawn S vs → Drawn (longer S L used from len) vs
drawn_longer S L used from len vs h d s = drawn_append (log_of used L) (run from len S ++ stop) vs d (drawn_range S from len vs h s)

-- after a push and back at a lower mark the log has no other variables either
pub drawn_pushed : {S : List Word} {L X : List ℕ} {used n a from len m b : ℕ} (vs : List ℕ) → Pushed S L used n a from len X (All m b) → from + len ≤ length S → Drawn (log_of used L) vs → Drawn S vs → Drawn (log_of (used + len + 3) X) vs
drawn_pushed {S} {L} {X} {used} {n} {a} {from} {len} vs p h d s = subst (λ (w : List Word). Drawn w vs) (sym p.log) (drawn_longer S L used from len vs h d s)

pub drawn_fewer : (j k : ℕ) (L vs : List ℕ) → Laid L → j ≤ k → k ≤ 24576 → Drawn (log_of k L) vs → Drawn (log_of j L) vs
drawn_fewer j k L vs h l m d =
    let g = h.long in
    let e : j + (k - j) ≡ k = omega arith in
    drawn_lower (log_of j L) _ vs (subst (λ (w : List Word). Drawn w vs) (sym (ap (λ (i : ℕ). log_of i L) e) ∙ log_append j (k - j) L (omega arith)) d)

-- the applications of a range, counted in the longer log or in the store; a push that was told brought no more
pub apps_range : (S : List Word) (L : List ℕ) (used from len : ℕ) → Laid L → used + len + 3 ≤ 24576 → apps_in (longer S L used from len) used (used + len) ≡ apps_told S from len
apps_range S L used from len h r =
    let l : length (log_of used L) ≡ used = length_log used h (record { most = omega arith }) in
    let k : used + len - used ≡ len = omega arith in
    ap (λ (m : ℕ). apps_of m (drop used (longer S L used from len))) k ∙ ap (apps_of len) (drop_at (log_of used L) (run from len S ++ stop) used l)

pub pushed_few : {S : List Word} {L X : List ℕ} {used n a from len m b : ℕ} → CanPush S L used n a from len → Pushed S L used n a from len X (All m b) → b ≤ a + apps_told S from len
pushed_few {S} {L} {X} {used} {n} {a} {from} {len} c p = omega (arith, p.told.few, apps_range S L used from len c.room.laid c.room.room)

-- a push does not stop where vs has the variables of the log and of the store
pub push_room : {S : List Word} {L X : List ℕ} {used n a from len m b : ℕ} (vs : List ℕ) → CanPush S L used n a from len → Drawn (longer S L used from len) vs → 3 * length vs + 2 ≤ 8192 → a + apps_told S from len ≤ 2048 → Pushed S L used n a from len X (NoRoom m b) → ⊥
push_room {S} {L} {X} {used} {n} {a} {from} {len} vs c d r q p =
    stopped_never vs c.state.cost p.told d (omega (arith, length_var c.room.laid)) (omega (arith, length_old c.room.laid)) (omega (arith, length_pos c.room.laid, apps_range S L used from len c.room.laid c.room.room))

-- so on a walk, where n different variables stand in the log and in the store: 3 * (n + 1) + 2 entries are enough, and a position
-- for each application
pub push_never : (ms : List Mark) (S : List Word) (L X : List ℕ) (from len m b : ℕ) (us : List ℕ) → CanPush S L (used_at ms) (trail_at ms) (apps_at ms) from len → Drawn (log_of (used_at ms) L) (0 ∷ us) → Drawn S (0 ∷ us) → 3 * (length us + 1) + 2 ≤ 8192 → apps_at ms + apps_told S from len ≤ 2048
    → Pushed S L (used_at ms) (trail_at ms) (apps_at ms) from len X (NoRoom m b) → ⊥
push_never ms S L X from len m b us c d s r q p = push_room (0 ∷ us) c (drawn_longer S L (used_at ms) from len (0 ∷ us) c.room.source d s) (omega arith) q p

-- nor does the quiet test, since any mark
pub quiet_never : (ms : List Mark) (L : List ℕ) (from : ℕ) (us : List ℕ) → Walk L ms → Drawn (log_of (used_at ms) L) (0 ∷ us) → 3 * (length us + 1) + 2 ≤ 8192
    → Calmed (log_of (used_at ms) L) (locals_of L) (pos_of L) (cells_of L) (vars_of L) (olds_of L) (trail_at ms) (apps_at ms) from NoSpace → ⊥
quiet_never ms L from us w d r k =
    let h = stand_here ms (log_of (used_at ms) L) (pos_of L) (cells_of L) (vars_of L) (olds_of L) w.stand in
    crowded_never (log_of (used_at ms) L) (pos_of L) (cells_of L) (vars_of L) (olds_of L) (trail_at ms) (apps_at ms) (0 ∷ us) h.state k d (omega (arith, length_var w.laid)) (omega (arith, length_old w.laid))
