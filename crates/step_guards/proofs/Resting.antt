-- The guards on the walk, and its answers. Assumes nothing.
use mathlib.Core.Path.{◌≡◌, refl, ap, sym, ◌∙◌, subst}
use mathlib.Core.Bool.{Bool, true, false, ◌&&◌}
use mathlib.Core.Logic.{◌⊎◌, inl, inr}
use mathlib.Core.List.{List, []}
use Prim.Native.Nat.{ℕ, ◌+◌, ◌*◌, ◌≤◌, ◌<◌}
use native.Mathlib.Omega.{arith}
use native.Mathlib.Decide.{ℕ_discrete}
use Rattle.mem_words.specs.declared.Word.{Word}
use Rattle.mem_words.specs.Words.{words}
use Rattle.mem_sorts.specs.declared.Kind.TheVariants.{And, Cond, Commit}
use Rattle.mem_numbers.specs.Numbers.{shorts}
use Rattle.mem_parts.specs.Parts.{Outside, outside_wide, cut_left, cut_right}
use Rattle.solve_quiet.specs.Solver.{Marking}
use Rattle.work_tables.specs.Tables.{log_of, locals_of, Laid}
use Rattle.work_marks.specs.Marks.{Mark}
use Rattle.work_marks.proofs.Walking.{walk_beside}
use Rattle.work_enter.specs.Enters.{At}
use Rattle.rule_words.specs.Scans.{close, around}
use Rattle.rule_effects.specs.Effects.{behind}
use Rattle.rule_effects.specs.Conditions.{kind_at, solved_at}
use Rattle.rule_ranges.specs.Asked.{QuietIn}
use Rattle.step_open.proofs.Turns.{false_true}
use Rattle.step_open.proofs.Chains.{opened_first, inside_around}
use Rattle.step_frames.specs.Frames.{frames_of}
use Rattle.step_path.specs.Paths.{path_of, Path, Before, CanPass, Passed}
use Rattle.step_path.proofs.Passing.{path_first, path_still}
use Rattle.step_turn.specs.Stood.{CanWalk, Stood, Unsolved}
use Rattle.step_turn.proofs.Standing.{stood_still}
use Rattle.step_walk.specs.Calm.{BoxesCalm, Boxed}
use Rattle.step_walk.proofs.Answers.{boxes_none}
use Rattle.step_waits.specs.Waits.{Operator, Waits, CanWait, IsWaiting}
use Rattle.step_waits.proofs.Asking.{tests_6, tests_7, tests_8, takes_choice}
use Rattle.step_guards.specs.Guards.{GuardsRest, Operators, CanAskOwn, OwnAsked, RestTo, Asks}

-- a guard that waits is an and-box
solved_and : (W : List Word) (j : ℕ) → solved_at W j ≡ true → kind_at W j And ≡ true
unfolding solved_at
solved_and W j = go (kind_at W j And) _
  where
    go : (a b : Bool) → (a && b) ≡ true → a ≡ true
    go true b e = refl
    go false b e = absurd (false_true e)

pub waits_and : (W : List Word) (g j : ℕ) → Waits W g j → kind_at W j And ≡ true
waits_and W g j (inl p) = subst (λ (x : ℕ). kind_at W x And ≡ true) (sym p.here) (solved_and W (p.place + 2) (tests_6 W p.place p.asks).1)
waits_and W g j (inr p) = go p.asks
  where
    go : Operator W p.place → kind_at W j And ≡ true
    go (inl x) = subst (λ (i : ℕ). kind_at W i And ≡ true) (sym p.here) (solved_and W (p.place + 1) (tests_7 W p.place x).1)
    go (inr x) = subst (λ (i : ℕ). kind_at W i And ≡ true) (sym p.here) (solved_and W (p.place + 1) (tests_8 W p.place x).1)

-- ---------------------------------------------------------------------------------------------
-- What the table of open brackets leaves of the others, and they of it.

same_path : {L X : List ℕ} → Outside 0 466944 L X → path_of X ≡ path_of L
unfolding path_of
same_path p = ap shorts (cut_right 466944 524288 (omega arith) p)

passed_log : {X Z : List ℕ} (k : ℕ) → Laid X → k ≤ 24576 → Outside 466944 524288 X Z → log_of k Z ≡ log_of k X
unfolding log_of
passed_log k h l p = ap words (cut_left 262144 (262144 + 3 * k) (omega arith) (omega arith) (omega (arith, h.long)) p)

passed_frames : {X Z : List ℕ} → Laid X → Outside 466944 524288 X Z → frames_of Z ≡ frames_of X
unfolding frames_of
passed_frames h p = ap shorts (cut_left 401408 466944 (omega arith) (omega arith) (omega (arith, h.long)) p)

passed_locals : {X Z : List ℕ} → Laid X → Outside 466944 524288 X Z → locals_of Z ≡ locals_of X
unfolding locals_of
passed_locals h p = cut_left 335872 401408 (omega arith) (omega arith) (omega (arith, h.long)) p

passed_at : {X Z : List ℕ} {used n a : ℕ} → Outside 466944 524288 X Z → (ms : List Mark) → At X used n a ms → At Z used n a ms
passed_at {X} {Z} p ms q = record { walk = walk_beside ms X Z 524288 q.walk (outside_wide 335872 524288 (omega arith) (omega arith) p); is_used = q.is_used; is_trail = q.is_trail; is_apps = q.is_apps }

-- ---------------------------------------------------------------------------------------------

module _ (W : List Word) (g : ℕ) where
  -- the question can be asked
  pub wait_can : {from j d k u n a h : ℕ} {X : List ℕ} → CanWalk W g → Asks W g from X j d k u n a h → g ≤ j → j < close W g → CanWait W X g j h
  wait_can c s a b = record { order = a; low = omega (arith, c.whole); few = c.roomy.few; laid = s.stood.at.walk.laid; path = s.path }

  rest_next : (j : ℕ) → RestTo W g j → (Waits W g j → QuietIn W j j false) → RestTo W g (j + 1)
  rest_next j p h = record { at = λ i a b e. go i a b e (ℕ_discrete j i) }
    where
      go : (i : ℕ) → g ≤ i → i < j + 1 → Waits W g i → Dec (j ≡ i) → QuietIn W i i false
      go i a b e (yes q) = subst (λ (x : ℕ). Waits W g x → QuietIn W x x false) q h e
      go i a b e (no q) = p.at i a (omega arith) e

  -- behind j: X is the slice after the word was gone over, L the one before it, where h brackets were open
  module _ (from : ℕ) (X : List ℕ) (j d k u m b : ℕ) (s : Stood W g from X (j + 1) d k u m b) (L : List ℕ) (el : locals_of X ≡ locals_of L) (rt : Outside 0 466944 L X) (h : ℕ) (pl : Path W g L j h) (ml : Marking (locals_of L) []) (rl : RestTo W g j) (c : CanWalk W g) (o : j < close W g) where
    before : Before W g j
    before = record { first = c.first; low = o; whole = omega (arith, c.whole) }

    path_now : Path W g X j h
    path_now = path_still (same_path rt) pl

    pub pass_can : CanPass W X j h
    pass_can = record { goal = g; before = before; path = path_now; few = c.roomy.few; laid = s.at.walk.laid }

    -- the brackets were counted on
    module _ (Z : List ℕ) (h' : ℕ) (q : Passed W X j h Z h') where
      stood_now : Stood W g from Z (j + 1) d k u m b
      stood_now = stood_still (λ ms p. passed_at q.rest ms p) (passed_frames s.at.walk.laid q.rest) (passed_log u s.at.walk.laid (omega (arith, s.at.is_used, s.at.walk.room)) q.rest) s

      none_marked : Marking (locals_of Z) []
      none_marked = subst (λ (l : List ℕ). Marking l []) (sym (passed_locals s.at.walk.laid q.rest ∙ el)) ml

      path_next : Path W g Z (j + 1) h'
      path_next = q.on g before path_now

      -- no guard that waits begins there
      pub asks_else : (r : Bool) → IsWaiting W g j r → r ≡ false → Asks W g from Z (j + 1) d k u m b h'
      asks_else r i z = record { stood = stood_now; path = path_next; unmarked = none_marked; rest = rest_next j rl (λ w. absurd ((subst (λ (x : Bool). IsWaiting W g j x) z i).is w)) }

      -- one does
      module _ (l : g ≤ j) (v : Bool) (i : IsWaiting W g j v) (zv : v ≡ true) where
        waiting : Waits W g j
        waiting = (subst (λ (x : Bool). IsWaiting W g j x) zv i).is

        pub ask_own : CanAskOwn W Z j k u m b
        ask_own = record { goal = g; from = from; depth = d; can = c; order = l; kind = waits_and W g j waiting; stood = stood_now }

        module _ (Y : List ℕ) (r : Bool) (a : OwnAsked W Z j k u m b Y r) where
          answer : QuietIn W j j r
          answer = a.quiet g from d l (waits_and W g j waiting) stood_now none_marked

          -- the walk is where it was, and nothing is marked
          pub stood_asked : Stood W g from Y (j + 1) d k u m b
          stood_asked = a.still g from d stood_now

          pub unmarked_asked : Marking (locals_of Y) []
          unmarked_asked = a.unmarked none_marked

          pub asks_box : r ≡ false → Asks W g from Y (j + 1) d k u m b h'
          asks_box z = record { stood = stood_asked; path = path_still (same_path a.rest) path_next; unmarked = unmarked_asked; rest = rest_next j rl (λ w. subst (QuietIn W j j) z answer) }

          pub rest_loud : r ≡ true → GuardsRest W g false
          rest_loud z = record { rest = λ y. absurd (false_true y); stir = λ y. inr (j, l, o, waiting, subst (QuietIn W j j) z answer) }

  -- the box has no solution
  pub rest_unsolved : (j : ℕ) → g ≤ j → j < close W g → Unsolved W j → GuardsRest W g false
  rest_unsolved j a b x = record { rest = λ y. absurd (false_true y); stir = λ y. inl (boxes_none W g j a b x) }

  -- all were asked
  pub rest_all : {from j d k u n a h : ℕ} {X : List ℕ} → Asks W g from X j d k u n a h → j ≡ close W g → GuardsRest W g true
  rest_all s e = record { rest = λ y i a b w. s.rest.at i a (omega (arith, b, e)) w; stir = λ y. absurd (false_true (sym y)) }

  -- ---------------------------------------------------------------------------------------------
  -- The operators.

  pub record NoOperator (j : ℕ) : Type 0 where
    pub none : (i : ℕ) → g ≤ i → i < j → (kind_at W i Cond ≡ false) × (kind_at W i Commit ≡ false)

  pub operators_first : NoOperator g
  operators_first = record { none = λ i a b. absurd (omega arith) }

  pub operators_next : (j : ℕ) (b c : Bool) → b ≡ kind_at W j Cond → b ≡ false → c ≡ kind_at W j Commit → c ≡ false → NoOperator j → NoOperator (j + 1)
  operators_next j b c eb zb ec zc p = record { none = λ i a l. go i a l (ℕ_discrete i j) }
    where
      go : (i : ℕ) → g ≤ i → i < j + 1 → Dec (i ≡ j) → (kind_at W i Cond ≡ false) × (kind_at W i Commit ≡ false)
      go i a l (yes q) = (ap (λ (x : ℕ). kind_at W x Cond) q ∙ sym eb ∙ zb, ap (λ (x : ℕ). kind_at W x Commit) q ∙ sym ec ∙ zc)
      go i a l (no q) = p.none i a (omega arith)

  pub operators_some : Operators W g false
  operators_some = record { none = λ y. absurd (false_true y) }

  pub operators_none : (j : ℕ) → behind W g ≤ j → NoOperator j → Operators W g true
  operators_none j l p = record { none = λ y i a b. p.none i a (omega arith) }

  -- without one no guard waits
  pub rest_unguarded : CanWalk W g → (b : Bool) → Operators W g b → b ≡ true → GuardsRest W g true
  rest_unguarded c b o z = record { rest = λ y j a l w. absurd (no_guard j l w); stir = λ y. absurd (false_true (sym y)) }
    where
      choice : (i : ℕ) → g ≤ i → i < behind W g → (kind_at W i Cond ≡ true) ⊎ (kind_at W i Commit ≡ true) → ⊥
      choice i a l (inl h) = false_true (sym (o.none z i a l).0 ∙ h)
      choice i a l (inr h) = false_true (sym (o.none z i a l).1 ∙ h)

      operator : (i : ℕ) → Operator W i → (kind_at W (around W i) Cond ≡ true) ⊎ (kind_at W (around W i) Commit ≡ true)
      operator i (inl x) = inl (tests_7 W i x).0
      operator i (inr x) = inr (tests_8 W i x).0

      no_guard : (j : ℕ) → j < close W g → Waits W g j → ⊥
      no_guard j l (inl p) = choice p.place (omega (arith, p.inside)) (omega (arith, l, p.here)) (takes_choice W p.place p.takes (tests_6 W p.place p.asks).2)
      no_guard j l (inr p) =
          let q = inside_around W g c.first (omega (arith, c.whole)) p.place p.inside (omega (arith, l, p.here)) in
          choice (around W p.place) q.0 (omega (arith, q.1, l, p.here)) (operator p.place p.asks)

  -- the environment fails: there is no box, or one without a solution
  pub rest_boxless : (b : Bool) → BoxesCalm W g b → Boxed W g b → GuardsRest W g b
  rest_boxless true x y = record { rest = λ z j a l w. absurd (y.none refl j a (omega (arith, l)) (waits_and W g j w)); stir = λ z. absurd (false_true (sym z)) }
  rest_boxless false x y = record { rest = λ z. absurd (false_true z); stir = λ z. inl x }

-- the walk begins, nothing marked
pub asks_first : {W : List Word} {g n u a : ℕ} {Y : List ℕ} → Stood W g n Y g 0 0 u n a → Marking (locals_of Y) [] → Asks W g n Y g 0 0 u n a 0
asks_first {W} {g} {Y = Y} s m = record { stood = s; path = path_first W g Y (opened_first W g); unmarked = m; rest = record { at = λ i p q w. absurd (omega arith) } }
