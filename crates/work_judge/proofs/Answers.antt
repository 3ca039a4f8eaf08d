-- A store against what was told up to a mark: the laws of the answer. Assumes nothing.
use mathlib.Core.Path.{◌≡◌, refl, ap, sym, ◌∙◌, subst}
use mathlib.Core.Bool.{Bool, true, false}
use mathlib.Core.List.{List, [], ◌∷◌, ◌++◌}
use Prim.Native.Nat.{ℕ, ◌+◌, ◌-◌, ◌*◌, ◌≤◌, ◌<◌}
use native.Mathlib.Omega.{arith}
use lib.ListN.{length}
use Rattle.constraint.specs.Tree.{Label}
use Rattle.constraint.specs.Constraint.{Store, Quiet, Fresh, Satisfiable}
use Rattle.mem_words.specs.declared.Word.{Word}
use Rattle.mem_copies.specs.Runs.{run}
use Rattle.solve_fields.specs.Read.{Distinct}
use Rattle.solve_tells.specs.Draws.{Drawn}
use Rattle.solve_tells.specs.Tells.{State}
use Rattle.solve_tells.specs.declared.Told.{Told}
use Rattle.solve_tells.specs.declared.Told.TheVariants.{All, Failed, NoRoom}
use Rattle.solve_explores.specs.Search.{CanTest}
use Rattle.solve_quiet.specs.Solver.{Solved, Marking, Calmed, CanCalm}
use Rattle.solve_quiet.proofs.Quietness.{crowded_never}
use Rattle.solve_quiet.specs.declared.Calm.{Calm}
use Rattle.solve_quiet.specs.declared.Calm.TheVariants.{Silent as CalmSilent, Loudly as CalmLoudly, NoSpace as CalmNoSpace}
use Rattle.work_judge.specs.declared.Judged.TheVariants.{NoSpace, Silent, Loudly}
use Rattle.work_tables.specs.Tables.{cells_of, vars_of as trail_vars, olds_of, pos_of, log_of, marks_of, stack_of, dones_of, locals_of, Laid, Logged, Searched, laid_after, length_log, length_var, length_old, length_pos, length_cell, searched_log, searched_pos, searched_locals}
use Rattle.mem_parts.specs.Parts.{cut_right}
use Rattle.work_log.specs.Logs.{stop}
use Rattle.work_walk.specs.Pushes.{CanPush, Pushed, longer}
use Rattle.work_marks.specs.Marks.{Mark, trail_at, apps_at, used_at, all_told, range_told, apps_told, after, Walk}
use Rattle.work_marks.proofs.Rooms.{push_room}
use Rattle.work_marks.proofs.Walking.{walk_can_push, walk_pushed, walk_searched}
use Rattle.work_marks.proofs.Verdicts.{walk_can_test, walk_satisfiable, walk_can_calm, walk_silent, walk_loud, walk_clash_loud}
use Rattle.work_judge.specs.Judging.{CanAgainst, RoomIn, Against}

-- what is true at a walk's mark is true of the numbers of the mark
at_mark : (ms : List Mark) (used n a : ℕ) (Q : ℕ → ℕ → ℕ → Type 0) → used_at ms ≡ used → trail_at ms ≡ n → apps_at ms ≡ a → Q (used_at ms) (trail_at ms) (apps_at ms) → Q used n a
at_mark ms used n a Q eu en ea q = subst (λ (z : ℕ). Q z n a) eu (subst (λ (z : ℕ). Q (used_at ms) z a) en (subst (Q (used_at ms) (trail_at ms)) ea q))

pub can_test : {S : List Word} {L : List ℕ} {used n a from len : ℕ} → CanAgainst S L used n a from len → Laid L × Logged used × CanTest (log_of used L) (pos_of L) (cells_of L) (marks_of L) (stack_of L) (dones_of L) a
can_test {S} {L} {used} {n} {a} h = at_mark h.marks used n a (λ (u m b : ℕ). Laid L × Logged u × CanTest (log_of u L) (pos_of L) (cells_of L) (marks_of L) (stack_of L) (dones_of L) b) h.is_used h.is_trail h.is_apps (walk_can_test h.marks L h.walk)

-- there is no solution: everything is quiet
pub against_cyclic : (S : List Word) (L : List ℕ) (used n a from len : ℕ) (r : Bool) → r ≡ false → Solved (log_of used L) (pos_of L) (cells_of L) r → Against S L used n a from len Silent
against_cyclic S L used n a from len r e s = record { fits = tt; right = λ ms w eu en ea lab d vs mk fr ρ t. absurd (none ms w eu lab (ρ, t)) }
  where
    none : (ms : List Mark) → Walk L ms → used_at ms ≡ used → (lab : ℕ → Label) → Satisfiable (all_told lab ms) → ⊥
    none ms w eu lab = walk_satisfiable ms L false w (subst (λ (u : ℕ). Solved (log_of u L) (pos_of L) (cells_of L) false) (sym eu) (subst (Solved (log_of used L) (pos_of L) (cells_of L)) e s)) lab

-- after the test, at any walk that is at the mark
module _ (ms : List Mark) (S : List Word) (L Y : List ℕ) (used n a from len : ℕ) (w : Walk L ms) (eu : used_at ms ≡ used) (en : trail_at ms ≡ n) (ea : apps_at ms ≡ a) (s : Searched L Y) (c : CanPush S Y used n a from len) where
  at_walk : CanPush S Y (used_at ms) (trail_at ms) (apps_at ms) from len
  at_walk = at_mark ms used n a (λ (u m b : ℕ). CanPush S Y u m b from len → CanPush S Y (used_at ms) (trail_at ms) (apps_at ms) from len) eu en ea (λ k. k) c

  pushed_at : (Z : List ℕ) (o : Told) → Pushed S Y used n a from len Z o → Pushed S Y (used_at ms) (trail_at ms) (apps_at ms) from len Z o
  pushed_at Z o p = at_mark ms used n a (λ (u m b : ℕ). Pushed S Y u m b from len Z o → Pushed S Y (used_at ms) (trail_at ms) (apps_at ms) from len Z o) eu en ea (λ k. k) p

  pushed_walk : (Z : List ℕ) (m b : ℕ) → Pushed S Y used n a from len Z (All m b) → Walk Z (after ms S from len m b ∷ ms)
  pushed_walk Z m b p = walk_pushed ms S Y Z from len (walk_searched ms L Y w s) at_walk m b (pushed_at Z (All m b) p)

pub can_push_after : {S : List Word} {L Y : List ℕ} {used n a from len : ℕ} → CanAgainst S L used n a from len → Searched L Y → CanPush S Y used n a from len
can_push_after {S} {L} {Y} {used} {n} {a} {from} {len} h s =
    let r = h.room in let e = h.is_used in
    at_mark h.marks used n a (λ (u m b : ℕ). CanPush S Y u m b from len) h.is_used h.is_trail h.is_apps (walk_can_push h.marks S Y from len (walk_searched h.marks L Y h.walk s) h.source (omega arith) h.vars)

pub pushed_as : (S : List Word) (Y Z : List ℕ) (used n a from len : ℕ) (o o' : Told) → o ≡ o' → Pushed S Y used n a from len Z o → Pushed S Y used n a from len Z o'
pushed_as S Y Z used n a from len o o' e p = subst (Pushed S Y used n a from len Z) e p

pub solved_as : (W : List Word) (P T : List ℕ) (r r' : Bool) → r ≡ r' → Solved W P T r → Solved W P T r'
solved_as W P T r r' e s = subst (Solved W P T) e s

pub can_quiet : {S : List Word} {L Y Z : List ℕ} {used n a from len m b : ℕ} (e : ℕ) → e ≡ used + len + 3 → CanAgainst S L used n a from len → Searched L Y → Pushed S Y used n a from len Z (All m b) → Laid Z × Logged e × CanCalm (log_of e Z) (locals_of Z) (pos_of Z) (cells_of Z) (trail_vars Z) (olds_of Z) (marks_of Z) (stack_of Z) (dones_of Z) m b n
can_quiet {S} {L} {Y} {Z} {used} {n} {a} {from} {len} {m} {b} e q h s p =
    let ms = h.marks in
    let wz : Walk Z (after ms S from len m b ∷ ms) = pushed_walk ms S L Y used n a from len h.walk h.is_used h.is_trail h.is_apps s (can_push_after h s) Z m b p in
    let eq : used_at ms + len + 3 ≡ e = ap (λ (u : ℕ). u + len + 3) h.is_used ∙ sym q in
    subst (λ (k : ℕ). Laid Z × Logged e × CanCalm (log_of e Z) (locals_of Z) (pos_of Z) (cells_of Z) (trail_vars Z) (olds_of Z) (marks_of Z) (stack_of Z) (dones_of Z) m b k) h.is_trail
    (subst (λ (k : ℕ). Laid Z × Logged k × CanCalm (log_of k Z) (locals_of Z) (pos_of Z) (cells_of Z) (trail_vars Z) (olds_of Z) (marks_of Z) (stack_of Z) (dones_of Z) m b (trail_at ms)) eq (walk_can_calm (after ms S from len m b ∷ []) ms Z wz))

-- the marks of locals are those at the start
locals_same : {S : List Word} {L Y Z : List ℕ} {used n a from len : ℕ} {o : Told} → Searched L Y → Pushed S Y used n a from len Z o → locals_of Z ≡ locals_of L
unfolding locals_of
locals_same s p = cut_right 335872 401408 (omega arith) p.rest ∙ searched_locals s

longer_searched : {L Y : List ℕ} (S : List Word) (used from len : ℕ) → Searched L Y → longer S Y used from len ≡ longer S L used from len
longer_searched S used from len s = ap (λ (v : List Word). v ++ (run from len S ++ stop)) (searched_log used s)

-- a push on a slice with room does not stop
pub stop_never : (S : List Word) (Y Z : List ℕ) (used n a from len m b : ℕ) → CanPush S Y used n a from len → Pushed S Y used n a from len Z (NoRoom m b) → RoomIn (longer S Y used from len) (a + apps_told S from len) → ⊥
stop_never S Y Z used n a from len m b c p r = push_room r.vars c r.drawn r.trail r.apps p

module _ (S : List Word) (L Y Z : List ℕ) (used n a from len : ℕ) (s : Searched L Y) (c : CanPush S Y used n a from len) (v : Solved (log_of used L) (pos_of L) (cells_of L) true) where
  sat : (ms : List Mark) → Walk L ms → used_at ms ≡ used → (lab : ℕ → Label) → Satisfiable (all_told lab ms)
  sat ms w eu lab = walk_satisfiable ms L true w (subst (λ (u : ℕ). Solved (log_of u L) (pos_of L) (cells_of L) true) (sym eu) v) lab

  module _ (m b e : ℕ) (q : e ≡ used + len + 3) (p : Pushed S Y used n a from len Z (All m b)) where
    calmed_at : (ms : List Mark) → used_at ms ≡ used → trail_at ms ≡ n → (r : Calm) → Calmed (log_of e Z) (locals_of Z) (pos_of Z) (cells_of Z) (trail_vars Z) (olds_of Z) m b n r → Calmed (log_of (used_at ms + len + 3) Z) (locals_of Z) (pos_of Z) (cells_of Z) (trail_vars Z) (olds_of Z) m b (trail_at ms) r
    calmed_at ms eu en r k =
        let eq : e ≡ used_at ms + len + 3 = q ∙ ap (λ (u : ℕ). u + len + 3) (sym eu) in
        subst (λ (i : ℕ). Calmed (log_of (used_at ms + len + 3) Z) (locals_of Z) (pos_of Z) (cells_of Z) (trail_vars Z) (olds_of Z) m b i r) (sym en)
        (subst (λ (i : ℕ). Calmed (log_of i Z) (locals_of Z) (pos_of Z) (cells_of Z) (trail_vars Z) (olds_of Z) m b n r) eq k)

    marking : (vs : List ℕ) → Marking (locals_of L) vs → Marking (locals_of Z) vs
    marking vs mk = subst (λ (l : List ℕ). Marking l vs) (sym (locals_same s p)) mk

    pub against_silent : (r : Calm) → r ≡ CalmSilent → Calmed (log_of e Z) (locals_of Z) (pos_of Z) (cells_of Z) (trail_vars Z) (olds_of Z) m b n r → Against S L used n a from len Silent
    against_silent r er k₀ = record { fits = tt; right = λ ms w eu en ea lab d vs mk fr. walk_silent (after ms S from len m b ∷ []) ms Z (pushed_walk ms S L Y used n a from len w eu en ea s c Z m b p) lab vs (calmed_at ms eu en CalmSilent (subst (Calmed (log_of e Z) (locals_of Z) (pos_of Z) (cells_of Z) (trail_vars Z) (olds_of Z) m b n) er k₀)) (marking vs mk) fr }

    pub against_loud : (r : Calm) → r ≡ CalmLoudly → Calmed (log_of e Z) (locals_of Z) (pos_of Z) (cells_of Z) (trail_vars Z) (olds_of Z) m b n r → Against S L used n a from len Loudly
    against_loud r er k₀ = record { fits = tt; right = λ ms w eu en ea lab d vs mk fr. walk_loud (after ms S from len m b ∷ []) ms Z (pushed_walk ms S L Y used n a from len w eu en ea s c Z m b p) lab vs (calmed_at ms eu en CalmLoudly (subst (Calmed (log_of e Z) (locals_of Z) (pos_of Z) (cells_of Z) (trail_vars Z) (olds_of Z) m b n) er k₀)) (marking vs mk) fr (sat ms w eu lab) }

    pub against_full : (r : Calm) → r ≡ CalmNoSpace → Calmed (log_of e Z) (locals_of Z) (pos_of Z) (cells_of Z) (trail_vars Z) (olds_of Z) m b n r → Against S L used n a from len NoSpace
    against_full r er k₀ =
        let lz : Laid Z = laid_after c.room.laid p.rest in
        let ew : log_of e Z ≡ longer S L used from len = ap (λ (i : ℕ). log_of i Z) q ∙ p.log ∙ longer_searched S used from len s in
        let st : State (log_of e Z) (pos_of Z) (cells_of Z) (trail_vars Z) (olds_of Z) m b = subst (λ (u : List Word). State u (pos_of Z) (cells_of Z) (trail_vars Z) (olds_of Z) m b) (sym (ap (λ (i : ℕ). log_of i Z) q ∙ p.log)) p.told.state in
        record { fits = (tt, λ k. crowded_never (log_of e Z) (pos_of Z) (cells_of Z) (trail_vars Z) (olds_of Z) m b k.vars st (subst (Calmed (log_of e Z) (locals_of Z) (pos_of Z) (cells_of Z) (trail_vars Z) (olds_of Z) m b n) er k₀) (subst (λ (u : List Word). Drawn u k.vars) (sym ew) k.drawn) (omega (arith, k.trail, length_var lz)) (omega (arith, k.trail, length_old lz))); right = λ ms w eu en ea lab d vs mk fr. tt }

  pub against_clash : (m b : ℕ) → Pushed S Y used n a from len Z (Failed m b) → Against S L used n a from len Loudly
  against_clash m b p = record { fits = tt; right = λ ms w eu en ea lab d vs mk fr. walk_clash_loud [] ms S Y Z from len m b (walk_searched ms L Y w s) (at_walk ms S L Y used n a from len w eu en ea s c) (pushed_at ms S L Y used n a from len w eu en ea s c Z (Failed m b) p) lab d vs fr (sat ms w eu lab) }

  pub against_stop : (m b : ℕ) → Pushed S Y used n a from len Z (NoRoom m b) → Against S L used n a from len NoSpace
  against_stop m b p = record { fits = (tt, λ r. stop_never S Y Z used n a from len m b c p (subst (λ (u : List Word). RoomIn u (a + apps_told S from len)) (sym (longer_searched S used from len s)) r)); right = λ ms w eu en ea lab d vs mk fr. tt }
