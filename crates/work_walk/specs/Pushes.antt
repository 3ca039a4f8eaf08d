-- A store pushed: its words stand in the log behind those that were there, and are told from there. Assumes nothing.
use Rattle.std.specs.Prelude.{◌≡◌, refl, List, ◌++◌, [], ◌∷◌, ℕ, zero, suc, ◌+◌, ◌-◌, ◌*◌, ◌≤◌, ◌<◌, length, get_or, drop}
use Rattle.std.proofs.Common.{ap, sym, ◌∙◌, subst, arith, get_or-append-add, drop_at}
use Rattle.std.proofs.Math.Decide.{dec_lt}
use Rattle.std.proofs.Math.ListN.{get_or-append}
use Rattle.mem_numbers.specs.Numbers.{shorts, triples, longs}
use Rattle.mem_words.specs.declared.Word.{Word}
use Rattle.mem_words.specs.declared.Word.TheVariants.{End, Bad}
use Rattle.mem_copies.specs.Runs.{run, get_or_run, length_run}
use Rattle.mem_parts.specs.Parts.{Outside, outside_then, outside_wide, cut_left}
use Rattle.constraint.specs.Tree.{Label}
use Rattle.solve_fields.specs.Read.{var_of, Vars, told}
use Rattle.solve_tells.specs.Tells.{State, CanTell, Telling, apps_in, range_of}
use Rattle.solve_tells.specs.declared.Told.{Told}
use Rattle.work_tables.specs.Tables.{cells_of, vars_of, olds_of, pos_of, log_of, Laid, Logged, laid_after, Noted, length_cell, length_log}
use Rattle.work_log.specs.Logs.{stop, CanAppend, Appended}
use Rattle.work_tells.specs.Positions.{Ahead}
use Rattle.work_grows.proofs.Growing.{state_more}

-- the log with the range of S behind its own words, and the end
abbrev pub longer : List Word → List ℕ → ℕ → ℕ → ℕ → List Word
longer S L used from len = log_of used L ++ (run from len S ++ stop)

-- there is room in the log, and the store's variables have cells
pub record CanPush (S : List Word) (L : List ℕ) (used n a from len : ℕ) : Type 0 where
  pub room : CanAppend S L used from len
  pub state : State (log_of used L) (pos_of L) (cells_of L) (vars_of L) (olds_of L) n a
  pub vars : Vars S 65536

-- the range was told from the longer log, to the tables as they were
pub record Pushed (S : List Word) (L : List ℕ) (used n a from len : ℕ) (X : List ℕ) (r : Told) : Type 0 where
  pub told : Telling (longer S L used from len) (pos_of L) (cells_of L) (vars_of L) (olds_of L) n a (apps_in (longer S L used from len) used (used + len)) (range_of (longer S L used from len) used (used + len)) (pos_of X) (cells_of X) (vars_of X) (olds_of X) r
  pub log : log_of (used + len + 3) X ≡ longer S L used from len
  pub ahead : Ahead a (used + len) (pos_of X) r
  pub rest : Outside 16384 335872 L X

vars_append : (A B : List Word) (s : ℕ) → Vars A s → Vars B s → Vars (A ++ B) s
vars_append A B s p q = record { low = λ i. go i (dec_lt i (length A)) }
  where
    go : (i : ℕ) → Dec (i < length A) → var_of (get_or (A ++ B) i Bad) < s
    go i (yes h) = subst (λ (w : Word). var_of w < s) (sym (get_or-append A B Bad i h)) (p.low i)
    go i (no h) =
        let e : i ≡ length A + (i - length A) = omega arith in
        subst (λ (w : Word). var_of w < s) (sym (ap (λ (j : ℕ). get_or (A ++ B) j Bad) e ∙ get_or-append-add A B (i - length A) Bad)) (q.low (i - length A))

past : (A : List Word) (i : ℕ) → length A ≤ i → get_or A i Bad ≡ Bad
past [] i h = refl
past (x ∷ A) zero h = absurd (omega arith)
past (x ∷ A) (suc i) h = past A i (omega arith)

vars_run : (S : List Word) (from n s : ℕ) → from + n ≤ length S → Vars S s → 0 < s → Vars (run from n S) s
vars_run S from n s h p z = record { low = λ i. go i (dec_lt i n) }
  where
    go : (i : ℕ) → Dec (i < n) → var_of (get_or (run from n S) i Bad) < s
    go i (yes l) = subst (λ (w : Word). var_of w < s) (sym (get_or_run from n S i Bad l)) (p.low (from + i))
    go i (no l) = let m = length_run from n S h in subst (λ (w : Word). var_of w < s) (sym (past (run from n S) i (omega arith))) z

vars_stop : (s : ℕ) → 0 < s → Vars stop s
unfolding stop
vars_stop s z = record { low = go }
  where
    go : (i : ℕ) → var_of (get_or (End ∷ (End ∷ (End ∷ []))) i Bad) < s
    go zero = z
    go (suc zero) = z
    go (suc (suc zero)) = z
    go (suc (suc (suc i))) = z

-- the log alone was changed
pub logged_to : {L Y : List ℕ} (Q : List ℕ → List ℕ → List ℕ → List ℕ → Type 0) → Laid L → Outside 262144 335872 L Y → Q (pos_of L) (cells_of L) (vars_of L) (olds_of L) → Q (pos_of Y) (cells_of Y) (vars_of Y) (olds_of Y)
unfolding pos_of cells_of vars_of olds_of
logged_to {L} {Y} Q h p q =
    subst (λ (T : List ℕ). Q T (cells_of Y) (vars_of Y) (olds_of Y)) (sym (ap longs (cut_left 253952 262144 (omega arith) (omega arith) (omega (arith, h.long)) p)))
    (subst (λ (T : List ℕ). Q (pos_of L) T (vars_of Y) (olds_of Y)) (sym (ap triples (cut_left 16384 212992 (omega arith) (omega arith) (omega (arith, h.long)) p)))
    (subst (λ (T : List ℕ). Q (pos_of L) (cells_of L) T (olds_of Y)) (sym (ap shorts (cut_left 212992 229376 (omega arith) (omega arith) (omega (arith, h.long)) p)))
    (subst (λ (T : List ℕ). Q (pos_of L) (cells_of L) (vars_of L) T) (sym (ap triples (cut_left 229376 253952 (omega arith) (omega arith) (omega (arith, h.long)) p))) q)))

pub logged_at : {L Y : List ℕ} (Q : List ℕ → List ℕ → List ℕ → List ℕ → Type 0) → Laid L → Outside 262144 335872 L Y → Q (pos_of Y) (cells_of Y) (vars_of Y) (olds_of Y) → Q (pos_of L) (cells_of L) (vars_of L) (olds_of L)
unfolding pos_of cells_of vars_of olds_of
logged_at {L} {Y} Q h p q =
    subst (λ (T : List ℕ). Q T (cells_of L) (vars_of L) (olds_of L)) (ap longs (cut_left 253952 262144 (omega arith) (omega arith) (omega (arith, h.long)) p))
    (subst (λ (T : List ℕ). Q (pos_of Y) T (vars_of L) (olds_of L)) (ap triples (cut_left 16384 212992 (omega arith) (omega arith) (omega (arith, h.long)) p))
    (subst (λ (T : List ℕ). Q (pos_of Y) (cells_of Y) T (olds_of L)) (ap shorts (cut_left 212992 229376 (omega arith) (omega arith) (omega (arith, h.long)) p))
    (subst (λ (T : List ℕ). Q (pos_of Y) (cells_of Y) (vars_of Y) T) (ap triples (cut_left 229376 253952 (omega arith) (omega arith) (omega (arith, h.long)) p)) q)))

pub can_push : (S : List Word) (L Y : List ℕ) (used n a from len : ℕ) → CanPush S L used n a from len → Appended S L used from len Y → CanTell (log_of (used + len + 3) Y) (pos_of Y) (cells_of Y) (vars_of Y) (olds_of Y) n a used (used + len)
can_push S L Y used n a from len h p =
    let g = h.room.laid in
    let r = h.room.room in
    let u : length (cells_of L) ≡ 65536 = length_cell g in
    let R : List Word = run from len S ++ stop in
    let vs : Vars (log_of used L ++ R) (length (cells_of L)) = vars_append (log_of used L) R (length (cells_of L)) h.state.sound.vars (vars_append (run from len S) stop (length (cells_of L)) (vars_run S from len (length (cells_of L)) h.room.source (subst (Vars S) (sym u) h.vars) (omega arith)) (vars_stop (length (cells_of L)) (omega arith))) in
    let l : length (log_of (used + len + 3) Y) ≡ used + len + 3 = length_log (used + len + 3) (laid_after g p.rest) (record { most = omega arith }) in
    let l2 : length (log_of used L ++ R) ≡ used + len + 3 = sym (ap length p.log) ∙ l in
    let s : State (log_of used L ++ R) (pos_of L) (cells_of L) (vars_of L) (olds_of L) n a = state_more (log_of used L) R (pos_of L) (cells_of L) (vars_of L) (olds_of L) n a vs (omega arith) h.state in
    record {
      state = logged_to (λ (P T X C : List ℕ). State (log_of (used + len + 3) Y) P T X C n a) g p.rest (subst (λ (W : List Word). State W (pos_of L) (cells_of L) (vars_of L) (olds_of L) n a) (sym p.log) s);
      le = omega arith;
      end = omega arith;
    }

-- what is told are the constraints that begin in the range alone
pub pushed_range : (S : List Word) (L : List ℕ) (used n a from len : ℕ) → CanPush S L used n a from len → (lab : ℕ → Label) → range_of (longer S L used from len) used (used + len) lab ≡ told lab len (run from len S ++ stop)
pushed_range S L used n a from len h lab =
    let r = h.room.room in
    let l : length (log_of used L) ≡ used = length_log used h.room.laid (record { most = omega arith }) in
    let k : used + len - used ≡ len = omega arith in
    ap (λ (m : ℕ). told lab m (drop used (longer S L used from len))) k ∙ ap (told lab len) (drop_at (log_of used L) (run from len S ++ stop) used l)
