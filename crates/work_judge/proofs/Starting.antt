-- A judgement from the start. Assumes nothing.
use mathlib.Core.Path.{◌≡◌, refl, ap, sym, ◌∙◌, subst}
use mathlib.Core.Logic.{◌⊎◌, inl, inr}
use mathlib.Core.Bool.{Bool, true, false}
use mathlib.Core.List.{List, [], ◌∷◌, ◌++◌}
use Prim.Native.Nat.{ℕ, ◌+◌, ◌-◌, ◌*◌, ◌≤◌, ◌<◌}
use native.Mathlib.Omega.{arith}
use lib.ListN.{length, get_or}
use Rattle.constraint.specs.Tree.{Label}
use Rattle.mem_numbers.specs.Numbers.{triples, zero_triples}
use Rattle.mem_words.specs.declared.Word.{Word}
use Rattle.mem_copies.specs.Runs.{run}
use Rattle.mem_parts.specs.Parts.{Outside, Zeroed, cut, cut_left, cut_right}
use Rattle.solve_tells.specs.Draws.{Drawn}
use Rattle.solve_tells.proofs.Rooms.{drawn_lower}
use Rattle.solve_tells.specs.declared.Told.{Told}
use Rattle.solve_tells.specs.declared.Told.TheVariants.{All, Failed, NoRoom}
use Rattle.solve_quiet.specs.Solver.{Marking}
use Rattle.work_judge.specs.declared.Judged.{Judged}
use Rattle.work_judge.specs.declared.Judged.TheVariants.{Unfit, NoSpace, Silent, Loudly}
use Rattle.work_tables.specs.Tables.{cells_of, locals_of, log_of, Laid, laid_after, length_log}
use Rattle.work_log.specs.Logs.{stop}
use Rattle.work_walk.specs.Pushes.{CanPush, Pushed, longer}
use Rattle.work_marks.specs.Marks.{Mark, trail_at, apps_at, used_at, all_told, range_told, apps_told, after, Walk}
use Rattle.work_marks.proofs.Walking.{walk_none, walk_can_push, walk_pushed}
use Rattle.work_marks.proofs.Verdicts.{walk_clash}
use Rattle.work_marks.proofs.Rooms.{pushed_few}
use Rattle.work_judge.specs.Judging.{Fitted, CanAgainst, RoomIn, Against, Suits, Suit, written, Judgement, Locals}
use Rattle.work_judge.proofs.Answers.{stop_never}

pub judge_unfit : (S : List Word) (from mid to : ℕ) (vs L : List ℕ) (r : Bool) → r ≡ false → Suit S from mid to L r → Judgement S from mid to vs L Unfit
judge_unfit S from mid to vs L r e s = record { fits = subst (Suit S from mid to L) e s; right = λ lab d fr. tt }

pub suit_as : (S : List Word) (from mid to : ℕ) (L : List ℕ) (r : Bool) → r ≡ true → Suit S from mid to L r → Suits S from mid to L
suit_as S from mid to L r e s = subst (Suit S from mid to L) e s

none_log : (L : List ℕ) → Laid L → log_of 0 L ≡ []
none_log L h = go (log_of 0 L) (length_log 0 h (record { most = omega arith }))
  where
    go : (W : List Word) → length W ≡ 0 → W ≡ []
    go [] e = refl
    go (w ∷ W) e = absurd (omega arith)

module _ (S : List Word) (from mid to : ℕ) (vs L A B : List ℕ) (h : Suits S from mid to L) (z : Zeroed 16384 212992 L A) (m : Locals A vs B) where
  laid_b : Laid B
  laid_b = laid_after (laid_after h.laid z.rest) m.rest

  -- the cells are zero
  pub start_walk : Walk B []
  unfolding cells_of
  start_walk =
      let g = h.laid.long in let k = z.rest.long in
      let e : cut 16384 212992 B ≡ cut 16384 212992 A = cut_left 16384 212992 (omega arith) (omega arith) (omega arith) m.rest in
      walk_none B laid_b (λ x. ap (λ (l : List ℕ). get_or (triples l) x 0) (e ∙ z.part) ∙ zero_triples (212992 - 16384) x)

  pub start_push : CanPush S B 0 0 0 from (mid - from)
  start_push = walk_can_push [] S B from (mid - from) start_walk (omega (arith, h.first, h.second, h.end)) (omega (arith, h.first, h.second, h.room)) h.vars

  first_words : longer S B 0 from (mid - from) ≡ run from (mid - from) S ++ stop
  first_words = ap (λ (w : List Word). w ++ (run from (mid - from) S ++ stop)) (none_log B laid_b)

  module _ (Z : List ℕ) (n a used : ℕ) (q : used ≡ mid - from + 3) (p : Pushed S B 0 0 0 from (mid - from) Z (All n a)) where
    next_walk : Walk Z (after [] S from (mid - from) n a ∷ [])
    next_walk = walk_pushed [] S B Z from (mid - from) start_walk start_push n a p

    is_used_here : used_at (after [] S from (mid - from) n a ∷ []) ≡ used
    is_used_here = let k = q in omega arith

    pub next_against : CanAgainst S Z used n a mid (to - mid)
    next_against = record { marks = after [] S from (mid - from) n a ∷ []; walk = next_walk; is_used = is_used_here; is_trail = refl; is_apps = refl; source = omega (arith, h.second, h.end); room = omega (arith, q, h.first, h.second, h.room); vars = h.vars }

    all_words : longer S Z used mid (to - mid) ≡ written S from mid to
    all_words = ap (λ (w : List Word). w ++ (run mid (to - mid) S ++ stop)) (ap (λ (k : ℕ). log_of k Z) (sym is_used_here) ∙ p.log ∙ first_words)

    marking : Marking (locals_of Z) vs
    unfolding locals_of
    marking = subst (λ (l : List ℕ). Marking l vs) (sym (cut_right 335872 401408 (omega arith) p.rest)) m.marks

    pub judge_told : (r : Judged) → Against S Z used n a mid (to - mid) r → Judgement S from mid to vs L r
    judge_told r g = record { fits = go r g.fits; right = λ lab d fr. g.right (after [] S from (mid - from) n a ∷ []) next_walk is_used_here refl refl lab d vs marking fr }
      where
        later : RoomIn (written S from mid to) (apps_told S from (mid - from) + apps_told S mid (to - mid)) → RoomIn (longer S Z used mid (to - mid)) (a + apps_told S mid (to - mid))
        later k = record {
          apps = omega (arith, k.apps, pushed_few start_push p);
          vars = k.vars;
          drawn = subst (λ (w : List Word). Drawn w k.vars) (sym all_words) k.drawn;
          trail = k.trail;
        }

        go : (j : Judged) → Fitted (Unit {0}) (RoomIn (longer S Z used mid (to - mid)) (a + apps_told S mid (to - mid))) j → Fitted (Suits S from mid to L) (RoomIn (written S from mid to) (apps_told S from (mid - from) + apps_told S mid (to - mid))) j
        go Unfit f = absurd (f tt)
        go NoSpace f = (h, λ k. f.1 (later k))
        go Silent f = h
        go Loudly f = h

  pub judge_clash : (Z : List ℕ) (n a : ℕ) → Pushed S B 0 0 0 from (mid - from) Z (Failed n a) → Judgement S from mid to vs L Silent
  judge_clash Z n a p = record { fits = h; right = λ lab d fr ρ s. absurd (walk_clash [] S B Z from (mid - from) n a start_walk start_push p lab d (ρ, s)) }

  pub judge_stop : (Z : List ℕ) (n a : ℕ) → Pushed S B 0 0 0 from (mid - from) Z (NoRoom n a) → Judgement S from mid to vs L NoSpace
  judge_stop Z n a p = record {
    fits = (
      h,
      λ k. stop_never S B Z 0 0 0 from (mid - from) n a start_push p (record {
        apps = omega (arith, k.apps);
        vars = k.vars;
        drawn = subst (λ (w : List Word). Drawn w k.vars) (sym first_words) (drawn_lower (run from (mid - from) S ++ stop) (run mid (to - mid) S ++ stop) k.vars k.drawn);
        trail = k.trail;
      }),
    );
    right = λ lab d fr. tt;
  }
