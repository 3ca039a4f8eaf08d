-- An answer's store told on cells that are zero: there is room for it, it has a solution, and the terms of the tables are those of
-- the answer's text.
use mathlib.Core.Path.{◌≡◌, refl, ap, sym, ◌∙◌, subst}
use mathlib.Core.Logic.{◌⊎◌, inl, inr}
use mathlib.Core.List.{List, [], ◌∷◌, ◌++◌}
use mathlib.Core.Option.{some, none}
use Prim.Native.Nat.{ℕ, zero, suc, ◌+◌, ◌-◌, ◌<◌, ◌≤◌}
use native.Mathlib.Numerals.{add-one}
use native.Mathlib.Omega.{arith}
use lib.ListN.{length, get_or}
use Rattle.constraint.specs.Tree.{Label}
use Rattle.constraint.specs.Constraint.{Store, In, vars_all, Satisfiable}
use Rattle.akl.specs.Base.{Name, size, range, nth}
use Rattle.akl.specs.Limits.{most_parts}
use Rattle.akl.specs.Configuration.{goal, Node, and, nil, Ctx, plug}
use Rattle.akl.specs.Places.{at}
use Rattle.akl.specs.Answers.{Answer, answers, numbered, terms, line_text, answer_text}
use Rattle.runs.specs.Calls.{AnswerIn}
use Rattle.runs.specs.Shown.{Fair}
use Rattle.runs.proofs.SameText.{fair}
use Rattle.runs.proofs.CallsHold.{nth_answer}
use Rattle.theory.specs.Scope.{Ok, Sub}
use Rattle.theory.specs.Formed.{Formed}
use Rattle.theory.proofs.OwnVariables.{around_ok}
use Rattle.mem_words.specs.declared.Word.{Word}
use Rattle.mem_words.specs.declared.Word.TheVariants.{Bad}
use Rattle.mem_words.specs.Form.{AllSmall}
use Rattle.mem_copies.specs.Runs.{run}
use Rattle.mem_parts.specs.Parts.{Zeroed, Outside}
use Rattle.read_nodes.specs.Spell.{named}
use Rattle.store_words.specs.Boxes.{store_words}
use Rattle.store_words.specs.Tables.{SpeltStore, SpeltNode}
use Rattle.store_form.specs.State.{State, table, number_in, program_of, names_of, config_of}
use Rattle.store_form.specs.Form.{config_words}
use Rattle.store_form.proofs.Names.{number_back, parents_lower}
use Rattle.store_form.proofs.Spelt.{node_small}
use Rattle.store_steps.specs.After.{Stands}
use Rattle.store_room.proofs.Freshness.{formed_state}
use Rattle.store_room.proofs.Labels.{lab_of, labels_differ, labels_spell, config_small}
use Rattle.store_room.proofs.Drawing.{drawn_store, roomy_stores}
use Rattle.store_room.proofs.Placed.{room_box, ranges_others}
use Rattle.rule_ranges.specs.Ranges.{Range, store_range, ranges, ranges_from, log_words, apps_all}
use Rattle.rule_ranges.specs.Asked.{Roomy, RoomFor, RangesDrawn}
use Rattle.rule_ranges.proofs.Ranged.{Held}
use Rattle.rule_ranges.proofs.Own.{spelt_in, store_held, store_told}
use Rattle.rule_ranges.proofs.Judged.{own_first}
use Rattle.rule_words.specs.Scans.{close}
use Rattle.rule_tells.proofs.Scanned.{closes_behind}
use Rattle.answer_boxes.proofs.Solved.{goal_inside}
use Rattle.rule_solve.proofs.Starts.{start_at, none_satisfied}
use Rattle.solve_fields.specs.Read.{var_of, num_of, Vars}
use Rattle.solve_tells.specs.Draws.{Drawn}
use Rattle.solve_tells.specs.Reach.{vars_of}
use Rattle.solve_tells.specs.Tells.{Means}
use Rattle.solve_tells.proofs.Rooms.{drawn_none, drawn_append, drawn_own, within_drawn}
use Rattle.solve_tells.specs.declared.Told.{Told}
use Rattle.solve_tells.specs.declared.Told.TheVariants as told
use Rattle.solve_classes.specs.Means.{Apps}
use Rattle.work_log.specs.Logs.{stop}
use Rattle.work_tables.specs.Tables.{cells_of, pos_of, vars_of as trail_of, olds_of, log_of, Laid, Logged, laid_after, length_log}
use Rattle.work_marks.specs.Marks.{Mark, Here, range_told, apps_told, after}
use Rattle.work_marks.proofs.Ranks.{satisfiable_acyclic}
use Rattle.work_marks.proofs.Standing.{stand_here}
use Rattle.work_walk.specs.Pushes.{longer}
use Rattle.work_enter.specs.Enters.{At, CanEnter, Deeper, Hopeless, Lacking, Entered}
use Rattle.step_meant.specs.Meant.{Meant, StandsAt}
use Rattle.step_meant.proofs.Whole.{whole_is}
use Rattle.answer_boxes.specs.Asked.{AnswerStands}
use Rattle.answer_turn.specs.Turning.{term_in, Shown}
use Rattle.answer_print.proofs.Whole.{answer_line}
use Rattle.call_answer.specs.Telling.{AnswerThere, AnswerTold}
use Rattle.call_answer.proofs.Labels.{small_at, small_run, LowNums, low_store, low_stop, low_append, rep_low}

-- an answer that has a number is among the answers
in_answers : (g : Node goal) (n : ℕ) (a : Answer) → numbered g n ≡ some a → AnswerIn a (answers g)
in_answers g zero a e = absurd (let z : ◌≡◌ {A = ℕ} 0 1 = cc in omega arith)
in_answers g (suc n) a e = nth_answer (answers g) n a e

-- lists without members
no_words : (l r : List Word) → length l ≡ 0 → l ++ r ≡ r
no_words [] r e = refl
no_words (w ∷ l) r e = absurd (omega arith)

-- the answer of number n of a well-formed state, at j
module _ (s : State) (h : Stands 2048 s) (n j : ℕ) (p : AnswerStands s (config_words s) n j) where
  abbrev W : List Word
  W = config_words s

  abbrev N : List ℕ
  N = table s

  abbrev num : Name → ℕ
  num = number_in (table s)

  abbrev box : Node goal
  box = and p.own p.store nil

  abbrev from : ℕ
  from = (store_range (config_words s) j).from

  abbrev len : ℕ
  len = (store_range (config_words s) j).len

  whole : s.config.root ≡ plug p.context box
  whole = sym (whole_is most_parts s h.fits W refl (at p.context box) j p.stands)

  formed : Formed 2048 (program_of s) (names_of s) (config_of s)
  formed = formed_state 2048 s h

  pub fair_here : Fair (p.own, p.store)
  fair_here = fair (program_of s) s.config.next s.config.root (p.own, p.store) formed.scopes formed.statements (in_answers s.config.root n (p.own, p.store) p.is)

  low_own : (x : ℕ) → In x p.own → x < 65535
  low_own x i =
      let w : Ok (plug p.context box) s.config.next [] = subst (λ (g : Node goal). Ok g s.config.next []) whole formed.scopes in
      omega (arith, (around_ok p.context box s.config.next w).0.1 x i, h.fits.next)

  low_all : (x : ℕ) → In x (0 ∷ p.own) → x < 65535
  low_all x (inl e) = omega (arith, e)
  low_all x (inr i) = low_own x i

  spelt_by : (lab : ℕ → Label) → SpeltNode num lab s.config.root → SpeltStore num lab p.store
  spelt_by lab q = (spelt_in num lab p.context box (subst (λ (g : Node goal). SpeltNode num lab g) whole q)).0

  named_spells : SpeltNode num (named N) s.config.root
  unfolding config_words
  named_spells = (node_small num (named N) (λ f l. (number_back N f l).0) s.config.root [] (config_small 2048 s h.fits)).0

  held : Held num W (store_range W j) p.store
  held = store_held num p.stands

  told_by : (lab : ℕ → Label) → SpeltNode num lab s.config.root → range_told W from len lab ≡ p.store
  told_by lab q = store_told num lab (spelt_by lab q) p.stands

  first : ranges_from W 0 (j + 1) ≡ store_range W j ∷ ranges j W 0 j
  unfolding ranges_from
  first = ap (λ (f : ℕ). ranges f W 0 (j + 1)) (add-one j) ∙ own_first num j 0 (omega arith) p.stands

  room : RoomFor W (store_range W j ∷ ranges j W 0 j)
  room = subst (RoomFor W) first (room_box s h p.context p.own p.store nil j whole p.stands)

  log_room : len + 3 ≤ 24576
  unfolding log_words
  log_room = omega (arith, room.log)

  apps_room : apps_told W from len ≤ 2048
  unfolding apps_all
  apps_room = omega (arith, room.apps)

  drawn : Drawn (run from len W ++ stop) (0 ∷ (roomy_stores s h).others)
  unfolding RangesDrawn
  drawn = (subst (λ (rs : List Range). RangesDrawn W rs (0 ∷ (roomy_stores s h).others)) first (ranges_others s h 0 (j + 1))).0

  -- the words that are told
  told_words : List Word
  told_words = store_words num p.store [] ++ stop

  module _ (L A : List ℕ) (l : Laid L) (z : Zeroed 16384 212992 L A) where
    laid : Laid A
    laid = laid_after l z.rest

    log_none : length (log_of 0 A) ≡ 0
    log_none = length_log 0 laid (record { most = omega arith })

    pub can : CanEnter W A 0 0 0 from len
    can = record { marks = []; at = start_at l z; source = held.within; room = omega (arith, log_room); vars = (roomy_stores s h).vars }

    -- there is a solution, and room
    pub never_failed : (X : List ℕ) (m : ℕ) → Hopeless W A 0 0 0 from len X m → ⊥
    never_failed X m q = q.none [] (start_at l z) (lab_of s) (labels_differ 2048 s h.fits) (subst Satisfiable (sym (told_by (lab_of s) (labels_spell 2048 s h.fits))) fair_here.sat)

    pub never_lacking : (X : List ℕ) (m : ℕ) → Lacking W A 0 0 0 from len X m → ⊥
    never_lacking X m q =
        q.why (0 ∷ (roomy_stores s h).others) (drawn_append (log_of 0 A) (run from len W ++ stop) (0 ∷ (roomy_stores s h).others) (drawn_none (log_of 0 A) (0 ∷ (roomy_stores s h).others) (inl refl) log_none) drawn)
        (omega (arith, (roomy_stores s h).trail)) (omega (arith, apps_room))

    -- all was told
    module _ (X : List ℕ) (m b : ℕ) (d : Deeper W A 0 0 0 from len X m b) (lg : log_of (0 + len + 3) X ≡ longer W A 0 from len) where
      abbrev U : List Word
      U = log_of (0 + len + 3) X

      here : Here (after [] W from len m b ∷ []) U (pos_of X) (cells_of X) (trail_of X) (olds_of X)
      here = stand_here (after [] W from len m b ∷ []) U (pos_of X) (cells_of X) (trail_of X) (olds_of X) (d.at [] (start_at l z)).walk.stand

      log_is : U ≡ told_words
      unfolding told_words
      log_is = lg ∙ no_words (log_of 0 A) (run from len W ++ stop) log_none ∙ ap (λ (u : List Word). u ++ stop) held.words

      log_drawn : Drawn U (0 ∷ p.own)
      unfolding told_words
      log_drawn = subst (λ (u : List Word). Drawn u (0 ∷ p.own)) (sym log_is) (drawn_store (0 ∷ p.own) (inl refl) num p.store (λ x i. inr (fair_here.own x i)))

      means_here : Means (named N) U (pos_of X) (cells_of X) p.store
      means_here = subst (Means (named N) U (pos_of X) (cells_of X)) (told_by (named N) named_spells) (here.means (named N))

      log_low : LowNums (length N) U
      unfolding told_words
      log_low =
          subst (LowNums (length N)) (sym log_is)
          (low_append (length N) (omega arith) (store_words num p.store []) stop
          (low_store (length N) (omega arith) num (λ f q. (number_back N f q).1) p.store [] (small_at (store_words num p.store []) (subst AllSmall held.words (small_run from len W (config_small 2048 s h.fits)))) (record { low = λ i. omega arith }))
          (low_stop (length N) (omega arith)))

      pub shown_here : Shown N U (pos_of X) (cells_of X)
      unfolding Apps
      shown_here = record {
        acyclic = satisfiable_acyclic (named N) U (pos_of X) (cells_of X) p.store means_here fair_here.sat;
        apps = λ x e. omega (arith, here.state.apps x e, here.state.fit_p);
        up = here.state.sound.up;
        vars = record { low = λ i. low_all (var_of (get_or U i Bad)) (log_drawn.at i) };
        classes = rep_low (0 ∷ p.own) (cells_of X) 65535 low_all (within_drawn U (0 ∷ p.own) (cells_of X) log_drawn here.state.sound.within);
        names = parents_lower 2048 s h.fits;
        labels = log_low.low;
      }

      pub text_here : (xs : List Name) → line_text xs (terms (term_in N U (pos_of X) (cells_of X)) (range 0 (size xs))) ≡ answer_text xs (p.own, p.store)
      text_here xs = answer_line N U (pos_of X) (cells_of X) shown_here (p.own, p.store) means_here xs fair_here

-- the same of words that mean the state; the range of the store is known by its beginning f and its length k
module _ (W : List Word) (j : ℕ) (L A X : List ℕ) (l : Laid L) (z : Zeroed 16384 212992 L A) (f k : ℕ) (ef : f ≡ (store_range W j).from) (ek : k ≡ (store_range W j).len) where
  pub can_tell : AnswerThere W j → CanEnter W A 0 0 0 f k
  can_tell t =
      let c : CanEnter W A 0 0 0 (store_range W j).from (store_range W j).len =
      subst (λ (u : List Word). AnswerStands t.some_state u t.number j → CanEnter u A 0 0 0 (store_range u j).from (store_range u j).len) (sym t.meant.config) (λ q. can t.some_state t.meant.stands t.number j q L A l z) t.stands in
      subst (λ (a : ℕ). CanEnter W A 0 0 0 a k) (sym ef) (subst (CanEnter W A 0 0 0 (store_range W j).from) (sym ek) c)

  ranged : (t : Told) → Entered W A 0 0 0 f k X t → Entered W A 0 0 0 (store_range W j).from (store_range W j).len X t
  ranged t e = subst (λ (b : ℕ). Entered W A 0 0 0 (store_range W j).from b X t) ek (subst (λ (a : ℕ). Entered W A 0 0 0 a k X t) ef e)

  pub tell_all : (u m b : ℕ) (t : Told) → t ≡ told.All m b → u ≡ 0 + k + 3 → Entered W A 0 0 0 f k X t → AnswerTold W j u X
  tell_all u m b t et eu e = record {
    shown = λ s D n q p. subst (λ (v : ℕ). Shown (table s) (log_of v X) (pos_of X) (cells_of X)) (sym eq)
        (subst (λ (w : List Word). AnswerStands s w n j → Entered w A 0 0 0 (store_range w j).from (store_range w j).len X (told.All m b) → Shown (table s) (log_of (0 + (store_range w j).len + 3) X) (pos_of X) (cells_of X)) (sym q.config)
        (λ p' e'. shown_here s q.stands n j p' L A l z X m b e'.answer e'.log) p r);
    text = λ s D n q p xs. subst (λ (v : ℕ). line_text xs (terms (term_in (table s) (log_of v X) (pos_of X) (cells_of X)) (range 0 (size xs))) ≡ answer_text xs (p.own, p.store)) (sym eq)
        (subst (λ (w : List Word). (p' : AnswerStands s w n j) → Entered w A 0 0 0 (store_range w j).from (store_range w j).len X (told.All m b) → line_text xs (terms (term_in (table s) (log_of (0 + (store_range w j).len + 3) X) (pos_of X) (cells_of X)) (range 0 (size xs))) ≡ answer_text xs (p'.own, p'.store)) (sym q.config)
        (λ p' e'. text_here s q.stands n j p' L A l z X m b e'.answer e'.log xs) p r);
  }
    where
      eq : u ≡ 0 + (store_range W j).len + 3
      eq = omega (arith, eu, ek)

      r : Entered W A 0 0 0 (store_range W j).from (store_range W j).len X (told.All m b)
      r = ranged (told.All m b) (subst (Entered W A 0 0 0 f k X) et e)

  pub tell_failed : (m b : ℕ) (t : Told) → t ≡ told.Failed m b → AnswerThere W j → Entered W A 0 0 0 f k X t → ⊥
  tell_failed m b t et a e =
      subst (λ (w : List Word). AnswerStands a.some_state w a.number j → Entered w A 0 0 0 (store_range w j).from (store_range w j).len X (told.Failed m b) → ⊥) (sym a.meant.config)
      (λ p e'. never_failed a.some_state a.meant.stands a.number j p L A l z X m e'.answer) a.stands (ranged (told.Failed m b) (subst (Entered W A 0 0 0 f k X) et e))

  pub tell_full : (m b : ℕ) (t : Told) → t ≡ told.NoRoom m b → AnswerThere W j → Entered W A 0 0 0 f k X t → ⊥
  tell_full m b t et a e =
      subst (λ (w : List Word). AnswerStands a.some_state w a.number j → Entered w A 0 0 0 (store_range w j).from (store_range w j).len X (told.NoRoom m b) → ⊥) (sym a.meant.config)
      (λ p e'. never_lacking a.some_state a.meant.stands a.number j p L A l z X m e'.answer) a.stands (ranged (told.NoRoom m b) (subst (Entered W A 0 0 0 f k X) et e))

-- where the range stands, by the ends that the code finds: the locals close at u, the store at e
module _ (W : List Word) (j u e : ℕ) (eu : u ≡ close W (j + 1)) (ee : e ≡ close W (u + 1)) where
  pub range_from : u + 2 ≡ (store_range W j).from
  unfolding store_range
  range_from = omega (arith, eu)

  pub range_len : e - (u + 2) ≡ (store_range W j).len
  unfolding store_range
  range_len = let q : close W (u + 1) ≡ close W (close W (j + 1) + 1) = ap (λ (x : ℕ). close W (x + 1)) eu in omega (arith, eu, ee, q)

-- an answer stands within the words, and so does its store
module _ {W : List Word} {j : ℕ} (t : AnswerThere W j) where
  pub answer_inside : j < length W
  answer_inside = goal_inside (record { some_state = t.some_state; some_rules = t.some_rules; meant = t.meant; context = t.stands.context; here = and t.stands.own t.stands.store nil; ors = t.stands.ors; stands = t.stands.stands })

  pub store_inside : (store_range W j).from + (store_range W j).len ≤ length W
  store_inside = (store_held (number_in (table t.some_state)) t.stands.stands).within

pub range_sub : {W : List Word} {j : ℕ} (u e : ℕ) → u ≡ close W (j + 1) → e ≡ close W (u + 1) → AnswerThere W j → u + 2 ≤ e
range_sub {W} {j} u e eu ee t = omega (arith, ee, closes_behind W u (omega (arith, store_inside t, range_from W j u e eu ee)))

-- what the code hands back when the store was told
module _ (W : List Word) (j u e : ℕ) (eu : u ≡ close W (j + 1)) (ee : e ≡ close W (u + 1)) (L A X : List ℕ) (l : Laid L) (z : Zeroed 16384 212992 L A) (t : AnswerThere W j) where
  pub code_can : CanEnter W A 0 0 0 (u + 2) (e - (u + 2))
  code_can = can_tell W j L A X l z (u + 2) (e - (u + 2)) (range_from W j u e eu ee) (range_len W j u e eu ee) t

  module _ (m b v : ℕ) (r : Told) (p : Entered W A 0 0 0 (u + 2) (e - (u + 2)) X r) where
    pub code_all : r ≡ told.All m b → v ≡ e - (u + 2) + 3 → AnswerTold W j v X × Laid X × Logged v
    code_all er ev =
        (tell_all W j L A X l z (u + 2) (e - (u + 2)) (range_from W j u e eu ee) (range_len W j u e eu ee) v m b r er (omega (arith, ev)) p, laid_after (laid_after l z.rest) p.rest, record { most = omega (arith, ev, code_can.room) })

    pub code_failed : r ≡ told.Failed m b → AnswerTold W j v X × Laid X × Logged v
    code_failed er = absurd (tell_failed W j L A X l z (u + 2) (e - (u + 2)) (range_from W j u e eu ee) (range_len W j u e eu ee) m b r er t p)

    pub code_full : r ≡ told.NoRoom m b → AnswerTold W j v X × Laid X × Logged v
    code_full er = absurd (tell_full W j L A X l z (u + 2) (e - (u + 2)) (range_from W j u e eu ee) (range_len W j u e eu ee) m b r er t p)
