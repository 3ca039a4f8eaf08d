-- The answers of going deeper, from those of the push and of the test. Assumes nothing.
use mathlib.Core.Path.{◌≡◌, refl, ap, sym, ◌∙◌, subst}
use mathlib.Core.Bool.{Bool, true, false}
use mathlib.Core.List.{List, [], ◌∷◌, ◌++◌}
use Prim.Native.Nat.{ℕ, ◌+◌, ◌*◌, ◌≤◌}
use native.Mathlib.Omega.{arith}
use lib.ListN.{length}
use Rattle.constraint.specs.Tree.{Label}
use Rattle.constraint.specs.Constraint.{Satisfiable}
use Rattle.mem_words.specs.declared.Word.{Word}
use Rattle.mem_parts.specs.Parts.{Outside, outside_then, outside_wide}
use Rattle.solve_tells.specs.declared.Told.{Told}
use Rattle.solve_tells.specs.declared.Told.TheVariants.{All, Failed, NoRoom}
use Rattle.solve_explores.specs.Since.{CanSince, TestedSince}
use Rattle.solve_quiet.proofs.Verdict.{solved}
use Rattle.work_tables.specs.Tables.{cells_of, vars_of, olds_of, pos_of, log_of, marks_of, stack_of, dones_of, Laid, Logged, Searched, searched_log}
use Rattle.work_walk.specs.Pushes.{CanPush, Pushed, longer}
use Rattle.work_marks.specs.Marks.{Mark, trail_at, apps_at, used_at, all_told, range_told, after, Walk, Returns}
use Rattle.work_marks.proofs.Walking.{walk_can_push, walk_pushed, walk_returns, failed_returns, stopped_returns, walk_searched}
use Rattle.work_marks.proofs.Verdicts.{walk_can_since, walk_satisfiable_since, lower_satisfiable, walk_clash}
use Rattle.work_marks.proofs.Rooms.{push_room}
use Rattle.work_enter.specs.Enters.{At, CanEnter, Deeper, Hopeless, Lacking, Entered}

-- what is true of the numbers of a walk's mark is true of the mark's
at_mark : {L : List ℕ} {used n a : ℕ} (ms : List Mark) (Q : ℕ → ℕ → ℕ → Type 0) → At L used n a ms → Q (used_at ms) (trail_at ms) (apps_at ms) → Q used n a
at_mark {L} {used} {n} {a} ms Q h q = subst (λ (z : ℕ). Q z n a) h.is_used (subst (λ (z : ℕ). Q (used_at ms) z a) h.is_trail (subst (Q (used_at ms) (trail_at ms)) h.is_apps q))

to_mark : {L : List ℕ} {used n a : ℕ} (ms : List Mark) (Q : ℕ → ℕ → ℕ → Type 0) → At L used n a ms → Q used n a → Q (used_at ms) (trail_at ms) (apps_at ms)
to_mark {L} {used} {n} {a} ms Q h q = at_mark ms (λ (u m b : ℕ). Q u m b → Q (used_at ms) (trail_at ms) (apps_at ms)) h (λ k. k) q

pub can_enter : {S : List Word} {L : List ℕ} {used n a from len : ℕ} → CanEnter S L used n a from len → CanPush S L used n a from len
can_enter {S} {L} {used} {n} {a} {from} {len} h =
    let ms = h.marks in let r = h.room in let e = h.at.is_used in
    at_mark ms (λ (u m b : ℕ). CanPush S L u m b from len) h.at (walk_can_push ms S L from len h.at.walk h.source (omega arith) h.vars)

module _ (S : List Word) (L Y : List ℕ) (used n a from len : ℕ) (c : CanPush S L used n a from len) where
  at_push : (ms : List Mark) → At L used n a ms → CanPush S L (used_at ms) (trail_at ms) (apps_at ms) from len
  at_push ms h = to_mark ms (λ (u m b : ℕ). CanPush S L u m b from len) h c

  pushed_at : (ms : List Mark) (o : Told) → At L used n a ms → Pushed S L used n a from len Y o → Pushed S L (used_at ms) (trail_at ms) (apps_at ms) from len Y o
  pushed_at ms o h p = to_mark ms (λ (u m b : ℕ). Pushed S L u m b from len Y o) h p

  wide : {o : Told} → Pushed S L used n a from len Y o → Outside 0 335872 L Y
  wide p = outside_wide 0 335872 (omega arith) (omega arith) p.rest

  -- the push failed, or had no room
  pub enter_failed : (m b : ℕ) → Pushed S L used n a from len Y (Failed m b) → Entered S L used n a from len Y (Failed m b)
  enter_failed m b p = record {
    answer = record {
      returns = λ ms h. failed_returns [] ms S L Y from len m b h.walk (at_push ms h) (pushed_at ms (Failed m b) h p);
      none = λ ms h lab d. walk_clash ms S L Y from len m b h.walk (at_push ms h) (pushed_at ms (Failed m b) h p) lab d;
    };
    log = p.log;
    rest = wide p;
  }

  pub enter_stopped : (m b : ℕ) → Pushed S L used n a from len Y (NoRoom m b) → Entered S L used n a from len Y (NoRoom m b)
  enter_stopped m b p = record {
    answer = record {
      returns = λ ms h. stopped_returns [] ms S L Y from len m b h.walk (at_push ms h) (pushed_at ms (NoRoom m b) h p);
      why = λ vs d t q. push_room vs c d t q p;
    };
    log = p.log;
    rest = wide p;
  }

  -- it was told, and then tested
  module _ (m b e : ℕ) (q : e ≡ used + len + 3) (p : Pushed S L used n a from len Y (All m b)) where
    told_walk : (ms : List Mark) → At L used n a ms → Walk Y (after ms S from len m b ∷ ms)
    told_walk ms h = walk_pushed ms S L Y from len h.walk (at_push ms h) m b (pushed_at ms (All m b) h p)

    used_of : (ms : List Mark) → At L used n a ms → used_at ms + len + 3 ≡ e
    used_of ms h = ap (λ (u : ℕ). u + len + 3) h.is_used ∙ sym q

    pub can_test : (ms : List Mark) → At L used n a ms → Laid Y × Logged e × CanSince (log_of e Y) (pos_of Y) (cells_of Y) (vars_of Y) (marks_of Y) (stack_of Y) (dones_of Y) m b n
    can_test ms h =
        subst (λ (k : ℕ). Laid Y × Logged e × CanSince (log_of e Y) (pos_of Y) (cells_of Y) (vars_of Y) (marks_of Y) (stack_of Y) (dones_of Y) m b k) h.is_trail
        (subst (λ (k : ℕ). Laid Y × Logged k × CanSince (log_of k Y) (pos_of Y) (cells_of Y) (vars_of Y) (marks_of Y) (stack_of Y) (dones_of Y) m b (trail_at ms)) (used_of ms h) (walk_can_since (after ms S from len m b ∷ []) ms Y (told_walk ms h)))

    module _ (Z : List ℕ) (s : Searched Y Z) where
      tested_at : (ms : List Mark) (r : Bool) → At L used n a ms → TestedSince (log_of e Y) (pos_of Y) (cells_of Y) (vars_of Y) (olds_of Y) m b n r → TestedSince (log_of (used_at ms + len + 3) Y) (pos_of Y) (cells_of Y) (vars_of Y) (olds_of Y) m b (trail_at ms) r
      tested_at ms r h t =
          subst (λ (k : ℕ). TestedSince (log_of (used_at ms + len + 3) Y) (pos_of Y) (cells_of Y) (vars_of Y) (olds_of Y) m b k r) (sym h.is_trail)
          (subst (λ (k : ℕ). TestedSince (log_of k Y) (pos_of Y) (cells_of Y) (vars_of Y) (olds_of Y) m b n r) (sym (used_of ms h)) t)

      searched_walk : (ms : List Mark) → At L used n a ms → Walk Z (after ms S from len m b ∷ ms)
      searched_walk ms h = walk_searched (after ms S from len m b ∷ ms) Y Z (told_walk ms h) s

      new_log : log_of (used + len + 3) Z ≡ longer S L used from len
      new_log = searched_log (used + len + 3) s ∙ p.log

      new_rest : Outside 0 335872 L Z
      new_rest = outside_then (wide p) (outside_wide 0 335872 (omega arith) (omega arith) s)

      pub enter_deeper : (r : Bool) → r ≡ true → TestedSince (log_of e Y) (pos_of Y) (cells_of Y) (vars_of Y) (olds_of Y) m b n r → Entered S L used n a from len Z (All m b)
      enter_deeper r er t = record {
        answer = record {
          at = λ ms h. record { walk = searched_walk ms h; is_used = ap (λ (u : ℕ). u + len + 3) h.is_used; is_trail = refl; is_apps = refl };
          solved = λ ms h lab. walk_satisfiable_since (after ms S from len m b ∷ []) ms Y true (told_walk ms h) (tested_at ms true h (subst (TestedSince (log_of e Y) (pos_of Y) (cells_of Y) (vars_of Y) (olds_of Y) m b n) er t)) lab;
        };
        log = new_log;
        rest = new_rest;
      }

      pub enter_cyclic : (r : Bool) → r ≡ false → TestedSince (log_of e Y) (pos_of Y) (cells_of Y) (vars_of Y) (olds_of Y) m b n r → Entered S L used n a from len Z (Failed m b)
      enter_cyclic r er t = record {
        answer = record {
          returns = λ ms h. walk_returns (after ms S from len m b ∷ []) ms Z (searched_walk ms h);
          none = λ ms h lab d sa. walk_satisfiable_since (after ms S from len m b ∷ []) ms Y false (told_walk ms h) (tested_at ms false h (subst (TestedSince (log_of e Y) (pos_of Y) (cells_of Y) (vars_of Y) (olds_of Y) m b n) er t)) lab (lower_satisfiable lab (after ms S from len m b ∷ []) ms sa) sa;
        };
        log = new_log;
        rest = new_rest;
      }

pub pushed_as : (S : List Word) (L Y : List ℕ) (used n a from len : ℕ) (o o' : Told) → o ≡ o' → Pushed S L used n a from len Y o → Pushed S L used n a from len Y o'
pushed_as S L Y used n a from len o o' e p = subst (Pushed S L used n a from len Y) e p
