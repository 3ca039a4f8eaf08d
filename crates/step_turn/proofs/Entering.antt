-- An and-box entered: there is room for its store; where it fails the box has no solution; where it is told an entry is put onto the
-- stack. Assumes nothing.
use mathlib.Core.Path.{◌≡◌, refl, ap, sym, ◌∙◌, subst}
use mathlib.Core.Bool.{true}
use mathlib.Core.List.{List, [], ◌∷◌, ◌++◌}
use Prim.Native.Nat.{ℕ, ◌+◌, ◌*◌, ◌<◌, ◌≤◌}
use native.Mathlib.Omega.{arith}
use lib.ListN.{get_or}
use Rattle.constraint.specs.Tree.{Label}
use Rattle.constraint.specs.Constraint.{Sats, Satisfiable}
use Rattle.constraint.proofs.Entail.{sats_append}
use Rattle.mem_words.specs.declared.Word.{Word}
use Rattle.mem_words.specs.declared.Word.TheVariants.{Bad}
use Rattle.mem_sorts.specs.declared.Kind.TheVariants.{And}
use Rattle.mem_parts.specs.Parts.{Outside, outside_wide, cut_left, cut_right}
use Rattle.mem_words.specs.Words.{words}
use Rattle.solve_tells.specs.Draws.{Drawn}
use Rattle.work_tables.specs.Tables.{cells_of, vars_of, olds_of, pos_of, log_of, locals_of, Laid, length_var, length_pos}
use Rattle.work_marks.specs.Marks.{Mark, trail_at, apps_at, used_at, all_told}
use Rattle.work_marks.proofs.Standing.{stand_here}
use Rattle.work_marks.proofs.Walking.{walk_returns, returns_can_back, walk_beside}
use Rattle.rule_words.specs.Scans.{opens, close}
use Rattle.rule_effects.specs.Conditions.{kind_at}
use Rattle.rule_ranges.specs.Ranges.{Range, and_its, ranges_from, told_all, log_words, apps_all}
use Rattle.rule_ranges.specs.Asked.{RoomFor, RangesDrawn, StoresDrawn}
use Rattle.rule_ranges.proofs.Drawing.{from_drawn}
use Rattle.rule_tells.specs.declared.Around.{Around}
use Rattle.rule_tells.specs.declared.Around.TheVariants.{All, Failed}
use Rattle.rule_tells.specs.Telling.{CanTellAll, Onward, AllOf, NoneOf, ToldAll}
use Rattle.rule_tells.proofs.Scanned.{next_around}
use Rattle.rule_tells.proofs.Adding.{told_more, words_more, apps_more, within_first, within_later}
use Rattle.step_open.specs.Opened.{Opened}
use Rattle.step_open.proofs.Turns.{and_opens, around_in}
use Rattle.step_open.proofs.Chains.{chain_few, chain_from, chain_next, opened_in, range_one}
use Rattle.step_frames.specs.Frames.{frames_of, same_frames, CanPush, Pushed}
use Rattle.step_turn.specs.Boxes.{Bracket, box, places, marks, inner, boxes, Its, Told, Framed}
use Rattle.step_turn.specs.Stood.{CanWalk, Stood, Unsolved}
use Rattle.step_turn.proofs.Stores.{inner_few, frame_as, framed_kept, words_since, apps_since, boxes_few, around_alike}

-- what the stack leaves of the solver's tables
log_before : {L X : List ℕ} (k : ℕ) → Laid L → k ≤ 24576 → Outside 401408 466944 L X → log_of k X ≡ log_of k L
unfolding log_of
log_before k h l p = ap words (cut_left 262144 (262144 + 3 * k) (omega arith) (omega arith) (omega (arith, h.long)) p)

locals_before : {L X : List ℕ} → Laid L → Outside 401408 466944 L X → locals_of X ≡ locals_of L
unfolding locals_of
locals_before h p = cut_left 335872 401408 (omega arith) (omega arith) (omega (arith, h.long)) p

module _ (W : List Word) (g from : ℕ) (X : List ℕ) (j d k used n a : ℕ) (c : CanWalk W g) (s : Stood W g from X j d k used n a) (low : j < close W g) (e : kind_at W j And ≡ true) where
  abbrev ms : List Mark
  ms = marks s.env s.brackets

  first : opens (get_or W j Bad) 0 ≡ true
  first = and_opens W j e

  pub next : Opened W g (j + 1) (j ∷ places s.brackets)
  next = opened_in W g j (omega (arith, c.whole)) (places s.brackets) first s.opened

  one : ranges_from W j (j + 1) ≡ and_its W j []
  one = range_one W j first

  more : ranges_from W g (j + 1) ≡ and_its W j [] ++ ranges_from W g j
  more = chain_next W g (j + 1) j (places s.brackets) next.chain

  room : RoomFor W (ranges_from W 0 g ++ (and_its W j [] ++ ranges_from W g j))
  room = subst (λ (rs : List Range). RoomFor W (ranges_from W 0 g ++ rs)) more (c.inside j (chain_from W g j (places s.brackets) s.opened.chain) (omega (arith, low)) e)

  -- there is room for its store
  pub enter_can : CanTellAll W X (ranges_from W j (j + 1)) used n a
  enter_can = subst (λ (rs : List Range). CanTellAll W X rs used n a) (sym one) (record {
    marks = ms;
    at = s.at;
    within = within_first W (and_its W j []) (ranges_from W g j) (within_later W (ranges_from W 0 g) (and_its W j [] ++ ranges_from W g j) room.within);
    log = omega (arith, room.log, words_more (ranges_from W 0 g) (and_its W j [] ++ ranges_from W g j), words_more (and_its W j []) (ranges_from W g j), words_since W g s.env j s.brackets s.opened.chain s.told, s.at.is_used, s.outer.words);
    apps = omega (arith, room.apps, apps_more W (ranges_from W 0 g) (and_its W j [] ++ ranges_from W g j), apps_more W (and_its W j []) (ranges_from W g j), apps_since W g s.env j s.brackets s.opened.chain s.told, s.at.is_apps, s.outer.apps);
    vars = c.roomy.vars;
    others = c.roomy.others;
    drawn = subst (λ (rs : List Range). RangesDrawn W rs (0 ∷ c.roomy.others)) one (from_drawn W (0 ∷ c.roomy.others) c.roomy.drawn j (j + 1));
    logged = s.logged c.roomy.others c.roomy.drawn;
    trail = c.roomy.trail;
  })

  -- its store fails
  outwards : (lab : ℕ → Label) → told_all lab W (ranges_from W 0 (j + 1)) ≡ told_all lab W (ranges_from W j (j + 1)) ++ told_all lab W (ranges_from W 0 j)
  outwards lab =
      ap (told_all lab W) (next_around W 0 (j + 1) j (sym (around_in W j first)) (omega arith) (omega arith))
      ∙ told_more lab W (and_its W j []) (ranges_from W 0 j)
      ∙ ap (λ (rs : List Range). told_all lab W rs ++ told_all lab W (ranges_from W 0 j)) (sym one)

  pub enter_none : (Y : List ℕ) (m : ℕ) (r : Around) → r ≡ Failed m → ToldAll W X (ranges_from W j (j + 1)) used n a Y r → Unsolved W j
  enter_none Y m r er t = record { kind = e; none = record { right = λ lab h q. p.none ms s.at lab h (both lab q) } }
    where
      p : NoneOf W X (ranges_from W j (j + 1)) used n a Y m
      p = (subst (ToldAll W X (ranges_from W j (j + 1)) used n a Y) er t).answer

      both : (lab : ℕ → Label) → Satisfiable (told_all lab W (ranges_from W 0 (j + 1))) → Satisfiable (all_told lab ms ++ told_all lab W (ranges_from W j (j + 1)))
      both lab q =
          let h = (sats_append q.0 (told_all lab W (ranges_from W j (j + 1))) (told_all lab W (ranges_from W 0 j))).0 (subst (Sats q.0) (outwards lab) q.1) in
          (q.0, (sats_append q.0 (all_told lab ms) (told_all lab W (ranges_from W j (j + 1)))).1 (((around_alike W g s.env from s.outer lab j s.brackets s.opened.chain s.told).sats q.0).0 h.1, h.0))

  -- it was told
  module _ (Y : List ℕ) (u m b : ℕ) (r : Around) (er : r ≡ All u m b) (t : ToldAll W X (ranges_from W j (j + 1)) used n a Y r) where
    pub all_of : AllOf W X (ranges_from W j (j + 1)) used n a Y u m b
    all_of = (subst (ToldAll W X (ranges_from W j (j + 1)) used n a Y) er t).answer

    pub on : Onward W (ranges_from W j (j + 1)) Y u m b ms
    on = all_of.on ms s.at

    abbrev pub opened_now : List Bracket
    opened_now = box j on.news ∷ s.brackets

    pub its : Its W j on.news ms
    its = record {
      told = λ lab. on.told lab ∙ ap (told_all lab W) one;
      words = omega (arith, on.at.is_used, all_of.words, s.at.is_used, ap log_words one);
      apps = omega (arith, on.at.is_apps, all_of.few, s.at.is_apps, ap (apps_all W) one);
    }

    pub told_now : Told W s.env opened_now
    unfolding Told
    told_now = (e, its, s.told)

    -- the log's variables are those of the stores
    drawn_now : (us : List ℕ) → StoresDrawn W (0 ∷ us) → Drawn (log_of u Y) (0 ∷ us)
    drawn_now us h = all_of.drawn (0 ∷ us) (s.logged us h) (from_drawn W (0 ∷ us) h j (j + 1))

    pub push_can : CanPush Y k d used n a
    push_can = record {
      laid = on.at.walk.laid;
      inside = omega (arith, boxes_few W g s.env opened_now told_now, on.at.walk.room, s.height);
      depth = omega (arith, s.depth, inner_few s.brackets, chain_few W g j (places s.brackets) s.opened.chain, low, c.whole, c.roomy.few);
      words = omega (arith, s.at.is_used, s.at.walk.room);
      trail = omega (arith, s.at.is_trail, (returns_can_back ms X (trail_at ms) (walk_returns [] ms X s.at.walk)).fit_x, length_var s.at.walk.laid);
      apps = omega (arith, s.at.is_apps, (stand_here ms (log_of (used_at ms) X) (pos_of X) (cells_of X) (vars_of X) (olds_of X) s.at.walk.stand).state.fit_p, length_pos s.at.walk.laid);
    }

    -- its entry is put onto the stack
    module _ (Q : List ℕ) (p : Pushed Y k d used n a Q) where
      pub enter_done : Stood W g from Q (j + 1) 0 (k + 1) u m b
      unfolding Framed
      enter_done = record {
        env = s.env;
        brackets = opened_now;
        outer = s.outer;
        opened = next;
        told = told_now;
        framed = (
          frame_as (boxes s.brackets) (inner s.brackets) (used_at ms) (trail_at ms) (apps_at ms) (sym s.height) (sym s.depth) (sym s.at.is_used) (sym s.at.is_trail) (sym s.at.is_apps) p.frame,
          framed_kept (frames_of X) (frames_of Q) s.env s.brackets (λ i l. p.below i (omega (arith, l, s.height)) ∙ ap (λ (F : List ℕ). get_or F i 0) (same_frames t.rest)) s.framed,
        );
        depth = refl;
        height = omega (arith, s.height);
        at = record { walk = walk_beside (marks s.env opened_now) Y Q 466944 on.at.walk (outside_wide 335872 466944 (omega arith) (omega arith) p.rest); is_used = on.at.is_used; is_trail = on.at.is_trail; is_apps = on.at.is_apps };
        solved = λ lab. on.solved lab (s.solved lab);
        logged = λ us h. subst (λ (l : List Word). Drawn l (0 ∷ us)) (sym (log_before u on.at.walk.laid (omega (arith, on.at.is_used, on.at.walk.room)) p.rest)) (drawn_now us h);
      }

      pub enter_locals : locals_of Q ≡ locals_of X
      unfolding locals_of
      enter_locals = locals_before on.at.walk.laid p.rest ∙ cut_right 335872 401408 (omega arith) t.rest
