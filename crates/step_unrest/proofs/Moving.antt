-- Inside a goal every rule rewrites the goal or something inside it: so whether one disturbs it goes by the kind of the place alone,
-- and by whether it applies.
use mathlib.Core.Path.{◌≡◌, refl, ap, ap₂, sym, ◌∙◌, subst}
use mathlib.Core.Bool.{Bool, true, false, cond, ◌||◌}
use mathlib.Core.Logic.{◌⊎◌, inl, inr}
use mathlib.Core.List.{List, [], ◌++◌}
use mathlib.Core.Option.{some}
use Prim.Native.Nat.{ℕ, zero, suc, ◌+◌, ◌<◌, ◌≤◌}
use native.Mathlib.Omega.{arith}
use lib.Dec.{T}
use borrow.Author.Tests.{eq-eqb}
use Rattle.akl.specs.Base.{nth}
use Rattle.akl.specs.Configuration as akl
use Rattle.akl.specs.Configuration.{Node, Ctx}
use Rattle.akl.specs.Places as places
use Rattle.akl.specs.Places.{at, inside}
use Rattle.akl.specs.Table as akl_table
use Rattle.akl.specs.Table.{Row, row, itself, holder, determinate, rule_row, takes_number, kind_at}
use Rattle.akl.specs.Stability.{rewritten, disturbs}
use Rattle.mem_words.specs.declared.Word.{Word}
use Rattle.mem_words.specs.declared.Word.TheVariants.{Place}
use Rattle.mem_sorts.specs.declared.Kind.TheVariants.{Wait, Cond, Commit}
use Rattle.store_words.specs.Contexts.{before, after, kind_of}
use Rattle.store_words.proofs.Places.{node_opens}
use Rattle.store_form.specs.State.{State, table, number_in}
use Rattle.rule_words.specs.Scans.{close, around}
use Rattle.rule_words.proofs.Balance.{a_place}
use Rattle.rule_effects.specs.Effects.{behind}
use Rattle.rule_effects.specs.Conditions as shapes
use Rattle.rule_effects.specs.Conditions.{ends_at, solved_at, failure_at, parts_at, right_at, left_at, one_at}
use Rattle.rule_effects.proofs.Frames.{stands_seg}
use Rattle.rule_ranges.proofs.Inside.{around_before, around_inside}
use Rattle.rule_ranges.specs.Asked.{QuietIn}
use Rattle.rule_kinds.specs.Kinds.{takes_in}
use Rattle.rule_holds.specs.Holding.{within_at, holds_in, inside_it}
use Rattle.rule_holds.proofs.Inside.{rewrites_words}
use Rattle.rule_applies.specs.declared.Asks.{Asks}
use Rattle.rule_applies.specs.declared.Asks.TheVariants.{Never, Always, Quiet}
use Rattle.rule_applies.specs.Asking.{only_if, asks_6, asks_7, asks_8, asks_10, asks_11, asks_13, asks_in}
use Rattle.step_meant.specs.Meant.{Meant, StandsAt}
use Rattle.step_meant.specs.Asked as asked
use Rattle.step_meant.specs.Asked.{Applies}
use Rattle.step_applies.proofs.Laws.{never_applies, always_applies, quiet_applies}
use Rattle.step_unrest.specs.Disturbing.{Disturbed, MovedAt, NoneQuiet, ByShape}
use Rattle.step_unrest.proofs.Placing.{kind_is, no_place_there}
use Rattle.step_unrest.proofs.Taken.{says, applied, all_rules, says_or_box, says_choice_box, says_guarded_goal, says_constraint, says_call, says_composition, says_hiding, says_choice, says_inner}

-- ---------------------------------------------------------------------------------------------
-- What is rewritten is in the goal.

within_it : (W : List Word) (g j : ℕ) → g ≤ j → j < behind W g → true ≡ within_at W g j
within_it W g j a b = inside_it W g j (close W g) a refl (omega (arith, b))

around_low : (W : List Word) (j : ℕ) → 0 < j → around W j < j
around_low W zero h = absurd (omega (arith, h))
around_low W (suc j) h = let a = around_before W j in omega (arith, a)

module _ (W D : List Word) (g j : ℕ) (s : State) {k : akl.Kind} (χ : Ctx k) (n : Node k) (p : StandsAt s W (at χ n) g) where
  pub place_inside : (pl : places.Place) → StandsAt s W pl j → g ≤ j → j < behind W g → inside χ n (rewritten itself pl) ≡ true
  place_inside (at χ' x) q a b = rewrites_words (number_in (table s)) itself p q ∙ sym (within_it W g j a b)

  -- the bracket around a position behind the goal's first word
  around_here : g < j → j < behind W g → g ≤ around W j
  around_here a b =
      let num = number_in (table s) in
      let o = node_opens num n (after num χ []) in
      let h = p.begins in
      around_inside (before num χ []) o.0 W (Place (kind_of n)) g j (a_place (kind_of n)) (stands_seg num p ∙ ap (λ (u : List Word). before num χ [] ++ u) o.1) (omega (arith, h)) a (omega (arith, b))

  pub holder_inside : (pl : places.Place) → StandsAt s W pl j → g < j → j < behind W g → inside χ n (rewritten holder pl) ≡ true
  unfolding holds_in
  holder_inside (at χ' x) q a b =
      let l = around_low W j (omega (arith, a)) in
      rewrites_words (number_in (table s)) holder p q ∙ sym (within_it W g (around W j) (around_here a b) (omega (arith, l, b)))

-- ---------------------------------------------------------------------------------------------
-- What a rule asks.

one_fails : (b c : Bool) (x : Asks) → b ≡ c → b ≡ false → Never ≡ only_if c x
unfolding only_if
one_fails b c x e z = ap (λ (a : Bool). only_if a x) (sym z ∙ e)

one_holds : (b c : Bool) → b ≡ c → b ≡ true → Always ≡ only_if c Always
unfolding only_if
one_holds b c e z = ap (λ (a : Bool). only_if a Always) (sym z ∙ e)

-- nothing, or whether the guard at q is quiet
three_tests : (a b c : Bool) (q : ℕ) → (Never ≡ only_if a (only_if b (only_if c (Quiet q)))) ⊎ (Quiet q ≡ only_if a (only_if b (only_if c (Quiet q))))
unfolding only_if
three_tests true true true q = inr refl
three_tests true true false q = inl refl
three_tests true false c q = inl refl
three_tests false b c q = inl refl

pub not_waiting : (a b c : Bool) (q : ℕ) → c ≡ false → (Never ≡ only_if a (only_if b (cond c Always (Quiet q)))) ⊎ (Quiet q ≡ only_if a (only_if b (cond c Always (Quiet q))))
unfolding only_if
not_waiting true true true q e = absurd (let y : ◌≡◌ {A = ℕ} 1 0 = ap (λ (x : Bool). elim x [ true ↦ 1 | false ↦ 0 ]) e in omega (arith, y))
not_waiting true true false q e = inr refl
not_waiting true false c q e = inl refl
not_waiting false b c q e = inl refl

-- with `?` the solver is not asked
pub waiting : (a b c : Bool) (q : ℕ) → b ≡ true → c ≡ true → cond a Always Never ≡ only_if a (only_if b (cond c Always (Quiet q)))
unfolding only_if
waiting true b c q e z = ap (λ (x : Bool). only_if x (cond true Always (Quiet q))) (sym e) ∙ ap (λ (x : Bool). only_if b (cond x Always (Quiet q))) (sym z)
waiting false b c q e z = refl

pub unsolved : (a b : Bool) (x : Asks) → b ≡ false → Never ≡ only_if a (only_if b x)
unfolding only_if
unsolved true b x e = ap (λ (c : Bool). only_if c x) (sym e)
unsolved false b x e = refl

pub or_true : (b : Bool) → b || true ≡ true
or_true true = refl
or_true false = refl

-- ---------------------------------------------------------------------------------------------
-- By the kind K of the place.

module _ (W D : List Word) (j K : ℕ) (e : K ≡ takes_in W j) where
  -- the place at j is of the kind that rule r takes
  taken : (r : ℕ) (w : Row) → rule_row r ≡ some w → K ≡ takes_number w.takes → (s : State) (pl : places.Place) → StandsAt s W pl j → asked.Takes s W r pl j
  taken r w f h s pl q = record { stands = q; row = w; is_row = f; fits = subst T (sym (eq-eqb (takes_number (kind_at pl)) (takes_number w.takes) (sym (kind_is W j s pl q) ∙ sym e ∙ h))) tt }

  pub effect_is : (r : ℕ) (w : Row) (b : Bool) → rule_row r ≡ some w → K ≡ takes_number w.takes → Applies W D r j b → (s : State) (pl : places.Place) → Meant W D s → StandsAt s W pl j → applied s pl r ≡ b
  effect_is r w b f h x s pl m q = sym (x.right s pl m (taken r w f h s pl q))

  -- what the table says there is what the rules come to for every goal around
  by_kind : (b : Bool) → ((s : State) (pl : places.Place) → Meant W D s → StandsAt s W pl j → says K true true (applied s pl) ≡ b) → (g : ℕ) → g < j → j < behind W g → Disturbed W D g j b
  by_kind b f g l u = record {
    right = λ s χ n pl m p q.
        sym (all_rules s χ n pl
        ∙ ap (λ (x : ℕ). says x (inside χ n (rewritten itself pl)) (inside χ n (rewritten holder pl)) (applied s pl)) (sym (kind_is W j s pl q) ∙ sym e)
        ∙ ap₂ (λ (x y : Bool). says K x y (applied s pl)) (place_inside W D g j s χ n p pl q (omega (arith, l)) u) (holder_inside W D g j s χ n p pl q l u)
        ∙ f s pl m q);
  }

  moved_at : (b : Bool) → (b ≡ true → (K ≡ 10 → ⊥) × (K ≡ 7 → ⊥)) → ((s : State) (pl : places.Place) → Meant W D s → StandsAt s W pl j → says K true true (applied s pl) ≡ b) → MovedAt W D j b
  moved_at b h f = record {
    right = λ a. by_kind b f;
    place = λ z. let y = h z in (λ x. y.0 (e ∙ x), λ x. y.1 (e ∙ x));
  }

  differ : false ≡ true → ⊥
  differ z = let y : ◌≡◌ {A = ℕ} 0 1 = ap (λ (x : Bool). elim x [ true ↦ 1 | false ↦ 0 ]) z in omega (arith, y)

  -- no place
  pub no_place : 10 ≤ K → MovedAt W D j false
  no_place h = record {
    right = λ a g l u. record { right = λ s χ n pl m p q. absurd (no_place_there W j s pl q (omega (arith, e, h))) };
    place = λ z. absurd (differ z);
  }

  -- an and-box: nothing is said
  pub and_box_there : K ≡ 7 → MovedAt W D j false
  and_box_there h = record { right = λ a. absurd (a (sym e ∙ h)); place = λ z. absurd (differ z) }

  -- an or-box that is in no or-box
  pub or_box_there : K ≡ 9 → MovedAt W D j false
  or_box_there h = moved_at false (λ z. absurd (differ z)) (λ s pl m q. ap (λ (x : ℕ). says x true true (applied s pl)) h ∙ says_or_box (applied s pl))

  -- ---------------------------------------------------------------------------------------------
  -- A choice-box: rules 10 and 6.

  choice_box_says : (b : Bool) → K ≡ 5 → ((s : State) (pl : places.Place) → Meant W D s → StandsAt s W pl j → applied s pl 10 || applied s pl 6 ≡ b) → MovedAt W D j b
  choice_box_says b h f = moved_at b (λ z. (λ u. omega (arith, u, h), λ u. omega (arith, u, h))) (λ s pl m q.
      ap (λ (k : ℕ). says k true true (applied s pl)) h ∙ says_choice_box (applied s pl) ∙ f s pl m q)

  -- rule 10 applies
  pub moved_10 : (a : Bool) → K ≡ 5 → Applies W D 10 j a → a ≡ true → MovedAt W D j true
  unfolding rule_row nth akl_table.table
  moved_10 a h x z = choice_box_says true h (λ s pl m q. ap (λ (u : Bool). u || applied s pl 6) (effect_is 10 (row akl_table.choice_box_place determinate holder) a refl h x s pl m q ∙ z))

  -- it does not: rule 6 decides
  pub moved_6 : (a b : Bool) → K ≡ 5 → Applies W D 10 j a → a ≡ false → Applies W D 6 j b → MovedAt W D j b
  unfolding rule_row nth akl_table.table
  moved_6 a b h x z y = choice_box_says b h (λ s pl m q.
      ap (λ (u : Bool). u || applied s pl 6) (effect_is 10 (row akl_table.choice_box_place determinate holder) a refl h x s pl m q ∙ z) ∙ effect_is 6 (row akl_table.choice_box_place determinate holder) b refl h y s pl m q)

  -- it does, whatever rule 10 says
  pub applied_6 : K ≡ 5 → Applies W D 6 j true → MovedAt W D j true
  unfolding rule_row nth akl_table.table
  applied_6 h y = choice_box_says true h (λ s pl m q. ap (λ (u : Bool). applied s pl 10 || u) (effect_is 6 (row akl_table.choice_box_place determinate holder) true refl h y s pl m q) ∙ or_true (applied s pl 10))

  -- ---------------------------------------------------------------------------------------------
  -- A guarded goal: rules 11, 13, 7 and 8.

  guarded_goal_says : (b : Bool) → K ≡ 6 → ((s : State) (pl : places.Place) → Meant W D s → StandsAt s W pl j → applied s pl 11 || (applied s pl 13 || (applied s pl 7 || applied s pl 8)) ≡ b) → MovedAt W D j b
  guarded_goal_says b h f = moved_at b (λ z. (λ u. omega (arith, u, h), λ u. omega (arith, u, h))) (λ s pl m q.
      ap (λ (k : ℕ). says k true true (applied s pl)) h ∙ says_guarded_goal (applied s pl) ∙ f s pl m q)

  -- rule 11 applies
  pub moved_11 : (a : Bool) → K ≡ 6 → Applies W D 11 j a → a ≡ true → MovedAt W D j true
  unfolding rule_row nth akl_table.table
  moved_11 a h x z = guarded_goal_says true h (λ s pl m q.
      ap (λ (u : Bool). u || (applied s pl 13 || (applied s pl 7 || applied s pl 8))) (effect_is 11 (row akl_table.guarded_goal determinate holder) a refl h x s pl m q ∙ z))

  -- rule 13 does
  pub moved_13 : K ≡ 6 → Applies W D 13 j true → MovedAt W D j true
  unfolding rule_row nth akl_table.table
  moved_13 h y = guarded_goal_says true h (λ s pl m q. ap (λ (u : Bool). applied s pl 11 || (u || (applied s pl 7 || applied s pl 8))) (effect_is 13 (row akl_table.guarded_goal determinate holder) true refl h y s pl m q) ∙ or_true (applied s pl 11))

  -- rules 7 and 8 do, whatever the others say
  pub applied_7 : K ≡ 6 → Applies W D 7 j true → MovedAt W D j true
  unfolding rule_row nth akl_table.table
  applied_7 h y = guarded_goal_says true h (λ s pl m q. ap (λ (u : Bool). applied s pl 11 || (applied s pl 13 || (u || applied s pl 8))) (effect_is 7 (row akl_table.guarded_goal determinate holder) true refl h y s pl m q) ∙ ap (λ (u : Bool). applied s pl 11 || u) (or_true (applied s pl 13)) ∙ or_true (applied s pl 11))

  pub applied_8 : K ≡ 6 → Applies W D 8 j true → MovedAt W D j true
  unfolding rule_row nth akl_table.table
  applied_8 h y = guarded_goal_says true h (λ s pl m q.
      ap (λ (u : Bool). applied s pl 11 || (applied s pl 13 || (applied s pl 7 || u))) (effect_is 8 (row akl_table.guarded_goal determinate holder) true refl h y s pl m q) ∙ ap (λ (u : Bool). applied s pl 11 || (applied s pl 13 || u)) (or_true (applied s pl 7)) ∙ ap (λ (u : Bool). applied s pl 11 || u) (or_true (applied s pl 13)) ∙ or_true (applied s pl 11))

  -- none of the four does
  rests_four : K ≡ 6 → Applies W D 11 j false → Applies W D 13 j false → Applies W D 7 j false → Applies W D 8 j false → MovedAt W D j false
  unfolding rule_row nth akl_table.table
  rests_four h x y u v = guarded_goal_says false h (λ s pl m q.
      ap (λ (o : Bool). o || (applied s pl 13 || (applied s pl 7 || applied s pl 8))) (effect_is 11 (row akl_table.guarded_goal determinate holder) false refl h x s pl m q)
      ∙ ap (λ (o : Bool). o || (applied s pl 7 || applied s pl 8)) (effect_is 13 (row akl_table.guarded_goal determinate holder) false refl h y s pl m q)
      ∙ ap (λ (o : Bool). o || applied s pl 8) (effect_is 7 (row akl_table.guarded_goal determinate holder) false refl h u s pl m q)
      ∙ effect_is 8 (row akl_table.guarded_goal determinate holder) false refl h v s pl m q)

  -- a rule that asks for a guard which is not quiet, or asks nothing
  not_quiet : (r q : ℕ) → (Never ≡ asks_in W j r) ⊎ (Quiet q ≡ asks_in W j r) → (Quiet q ≡ asks_in W j r → QuietIn W q q false) → Applies W D r j false
  not_quiet r q (inl x) f = never_applies W D r j x
  not_quiet r q (inr x) f = quiet_applies W D r j q false x (f x)

  -- ---------------------------------------------------------------------------------------------
  -- A statement, and an or-box in an or-box: the rule that takes it applies.

  always : (s : State) (pl : places.Place) (t : akl_table.Takes) → Meant W D s → StandsAt s W pl j → K ≡ takes_number t → (K ≡ 5 → ⊥) → (K ≡ 6 → ⊥) → (K ≡ 7 → ⊥) → (K ≡ 9 → ⊥) → says K true true (applied s pl) ≡ true
  unfolding rule_row nth akl_table.table asks_in
  always s pl akl_table.constraint_atom m q h a b c d = ap (λ (k : ℕ). says k true true (applied s pl)) h ∙ says_constraint (applied s pl) (effect_is 1 (row akl_table.constraint_atom determinate holder) true refl h (always_applies W D 1 j refl) s pl m q)
  always s pl akl_table.program_atom m q h a b c d = ap (λ (k : ℕ). says k true true (applied s pl)) h ∙ says_call (applied s pl) (effect_is 2 (row akl_table.program_atom determinate itself) true refl h (always_applies W D 2 j refl) s pl m q)
  always s pl akl_table.composition m q h a b c d = ap (λ (k : ℕ). says k true true (applied s pl)) h ∙ says_composition (applied s pl) (effect_is 3 (row akl_table.composition determinate holder) true refl h (always_applies W D 3 j refl) s pl m q)
  always s pl akl_table.hiding m q h a b c d = ap (λ (k : ℕ). says k true true (applied s pl)) h ∙ says_hiding (applied s pl) (effect_is 4 (row akl_table.hiding determinate holder) true refl h (always_applies W D 4 j refl) s pl m q)
  always s pl akl_table.choice_statement m q h a b c d = ap (λ (k : ℕ). says k true true (applied s pl)) h ∙ says_choice (applied s pl) (effect_is 5 (row akl_table.choice_statement determinate itself) true refl h (always_applies W D 5 j refl) s pl m q)
  always s pl akl_table.choice_box_place m q h a b c d = absurd (a h)
  always s pl akl_table.guarded_goal m q h a b c d = absurd (b h)
  always s pl akl_table.and_box m q h a b c d = absurd (c h)
  always s pl akl_table.inner_or_box m q h a b c d = ap (λ (k : ℕ). says k true true (applied s pl)) h ∙ says_inner (applied s pl) (effect_is 14 (row akl_table.inner_or_box determinate holder) true refl h (always_applies W D 14 j refl) s pl m q)
  always s pl akl_table.other_or_box m q h a b c d = absurd (d h)

  pub at_once : (K ≡ 10 → ⊥) → (K ≡ 7 → ⊥) → (K ≡ 9 → ⊥) → (K ≡ 5 → ⊥) → (K ≡ 6 → ⊥) → MovedAt W D j true
  at_once o c d a b = moved_at true (λ z. (o, c)) (λ s pl m q. always s pl (kind_at pl) m q (e ∙ kind_is W j s pl q) a b c d)

-- ---------------------------------------------------------------------------------------------
-- By the shape alone.

module _ (W : List Word) (j K : ℕ) (e : K ≡ takes_in W j) where
  differs : false ≡ true → ⊥
  differs z = let y : ◌≡◌ {A = ℕ} 0 1 = ap (λ (x : Bool). elim x [ true ↦ 1 | false ↦ 0 ]) z in omega (arith, y)

  shape_rests : (NoneQuiet W j → (D : List Word) → MovedAt W D j false) → ByShape W j false
  shape_rests f = record { stirs = λ z. absurd (differs z); rests = λ z. f }

  shape_stirs : ((D : List Word) → MovedAt W D j true) → ByShape W j true
  shape_stirs f = record { stirs = λ z. f; rests = λ z. absurd (differs (sym z)) }

  pub shape_no_place : 10 ≤ K → ByShape W j false
  shape_no_place h = shape_rests (λ n D. no_place W D j K e h)

  pub shape_and_box : K ≡ 7 → ByShape W j false
  shape_and_box h = shape_rests (λ n D. and_box_there W D j K e h)

  pub shape_or_box : K ≡ 9 → ByShape W j false
  shape_or_box h = shape_rests (λ n D. or_box_there W D j K e h)

  pub shape_at_once : (K ≡ 10 → ⊥) → (K ≡ 7 → ⊥) → (K ≡ 9 → ⊥) → (K ≡ 5 → ⊥) → (K ≡ 6 → ⊥) → ByShape W j true
  shape_at_once o c d a b = shape_stirs (λ D. at_once W D j K e o c d a b)

  -- a choice-box: empty
  module _ (h : K ≡ 5) (a : Bool) (ea : a ≡ ends_at W (j + 1)) where
    pub shape_empty : a ≡ true → ByShape W j true
    unfolding asks_in asks_10
    shape_empty z = shape_stirs (λ D. moved_10 W D j K e true h (always_applies W D 10 j (one_holds a (ends_at W (j + 1)) ea z)) refl)

    module _ (z : a ≡ false) where
      by_six : (b : Bool) (D : List Word) → Applies W D 6 j b → MovedAt W D j b
      unfolding asks_in asks_10
      by_six b D x = moved_6 W D j K e false b h (never_applies W D 10 j (one_fails a (ends_at W (j + 1)) Always ea z)) refl x

      -- with `?`: it is promoted if its guard is solved and the only one
      pub shape_promoted : (b c r : Bool) → b ≡ shapes.kind_at W j Wait → b ≡ true → c ≡ solved_at W (j + 2) → c ≡ true → r ≡ one_at W j → ByShape W j r
      unfolding asks_in asks_6
      shape_promoted b c true eb zb ec zc er = shape_stirs (λ D. by_six true D (always_applies W D 6 j (ap (λ (x : Bool). cond x Always Never) er ∙ waiting (one_at W j) (solved_at W (j + 2)) (shapes.kind_at W j Wait) (j + 2) (sym ec ∙ zc) (sym eb ∙ zb))))
      shape_promoted b c false eb zb ec zc er = shape_rests (λ n D. by_six false D (never_applies W D 6 j (ap (λ (x : Bool). cond x Always Never) er ∙ waiting (one_at W j) (solved_at W (j + 2)) (shapes.kind_at W j Wait) (j + 2) (sym ec ∙ zc) (sym eb ∙ zb))))

      pub shape_unsolved : (c : Bool) → c ≡ solved_at W (j + 2) → c ≡ false → ByShape W j false
      unfolding asks_in asks_6
      shape_unsolved c ec zc = shape_rests (λ n D. by_six false D (never_applies W D 6 j (unsolved (one_at W j) (solved_at W (j + 2)) _ (sym ec ∙ zc))))

      -- with another operator its guard must be quiet
      pub shape_asked : (b : Bool) → b ≡ shapes.kind_at W j Wait → b ≡ false → ByShape W j false
      unfolding asks_in asks_6
      shape_asked b eb zb = shape_rests (λ n D. by_six false D (not_quiet W D j K e 6 (j + 2) (not_waiting (one_at W j) (solved_at W (j + 2)) (shapes.kind_at W j Wait) (j + 2) (sym eb ∙ zb)) (n.promotion (sym e ∙ h))))

  -- a guarded goal: its guard is failure
  module _ (h : K ≡ 6) (a : Bool) (ea : a ≡ failure_at W (j + 1)) where
    pub shape_failed : a ≡ true → ByShape W j true
    unfolding asks_in asks_11
    shape_failed z = shape_stirs (λ D. moved_11 W D j K e true h (always_applies W D 11 j (one_holds a (failure_at W (j + 1)) ea z)) refl)

    -- or an or-box with parts; else it must be quiet
    pub shape_parts : a ≡ false → (r : Bool) → r ≡ parts_at W (j + 1) → ByShape W j r
    unfolding asks_in asks_7 asks_8 asks_11 asks_13
    shape_parts z true er = shape_stirs (λ D. moved_13 W D j K e h (always_applies W D 13 j (one_holds true (parts_at W (j + 1)) er refl)))
    shape_parts z false er = shape_rests (λ n D.
        rests_four W D j K e h
        (never_applies W D 11 j (one_fails a (failure_at W (j + 1)) Always ea z))
        (never_applies W D 13 j (one_fails false (parts_at W (j + 1)) Always er refl))
        (not_quiet W D j K e 7 (j + 1) (three_tests (shapes.kind_at W (around W j) Cond) (solved_at W (j + 1)) (right_at W j) (j + 1)) (n.condition (sym e ∙ h)))
        (not_quiet W D j K e 8 (j + 1) (three_tests (shapes.kind_at W (around W j) Commit) (solved_at W (j + 1)) (left_at W j || right_at W j) (j + 1)) (n.commitment (sym e ∙ h))))
