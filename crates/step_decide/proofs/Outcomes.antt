-- The refusals 10 to 13, and that none of them is met, from what the parts of a decision hand back. Assumes nothing.
use mathlib.Core.Path.{◌≡◌, refl, ap, ap₂, sym, ◌∙◌, subst}
use mathlib.Core.Bool.{Bool, true, false, ◌&&◌}
use mathlib.Core.List.{List}
use mathlib.Core.Option.{Option, some, none}
use Prim.Native.Nat.{ℕ, ◌<◌, ◌≤◌}
use native.Mathlib.Omega.{arith}
use lib.Dec.{T}
use lib.ListN.{length}
use borrow.Author.Tests.{eq-eqb, ne_eqb}
use Rattle.akl.specs.Base.{is_some, Result, refused}
use Rattle.akl.specs.Limits.{most_parts}
use Rattle.akl.specs.Configuration.{Config}
use Rattle.akl.specs.Places.{Place, at, place}
use Rattle.akl.specs.Table as table
use Rattle.akl.specs.Table.{Row, rule_row, kind_at, takes_number}
use Rattle.akl.specs.Rules.{effect}
use Rattle.akl.specs.Stability.{fits_row}
use Rattle.akl.specs.Step.{step, argument_fits, argument_stable, within_limits, after_condition, after_place, after_rule}
use Rattle.mem_words.specs.declared.Word.{Word}
use Rattle.store_form.specs.State.{State, table as names, number_in, program_of, config_of}
use Rattle.store_words.specs.Contexts.{place_at}
use Rattle.rule_kinds.specs.Kinds.{takes_in}
use Rattle.rule_kinds.proofs.KindWords.{kind_words}
use Rattle.rule_table.specs.declared.Row as rows
use Rattle.rule_table.specs.declared.Row.TheVariants.{Absent, Rule}
use Rattle.rule_table.specs.Rows.{takes_no, row_in, takes_numbered}
use Rattle.step_meant.specs.Meant.{Meant, StandsAt}
use Rattle.step_meant.specs.Asked.{Takes}
use Rattle.step_meant.specs.Deciding.{step_of, Refuses, Goes}
use Rattle.step_decide.specs.Decided.{row_takes, argument_there, CanDecide, CanTake, HasCondition}
use Rattle.step_decide.proofs.Places.{place_of, no_place_of, argument_is}

-- ---------------------------------------------------------------------------------------------
-- The row.

ten_kinds : (t : table.Takes) → takes_number t < 10
ten_kinds table.constraint_atom = omega arith
ten_kinds table.program_atom = omega arith
ten_kinds table.composition = omega arith
ten_kinds table.hiding = omega arith
ten_kinds table.choice_statement = omega arith
ten_kinds table.choice_box_place = omega arith
ten_kinds table.guarded_goal = omega arith
ten_kinds table.and_box = omega arith
ten_kinds table.inner_or_box = omega arith
ten_kinds table.other_or_box = omega arith

-- the kind that a row of the code takes
abbrev pub row_no : rows.Row → ℕ
row_no Absent = 10
row_no (Rule k m v) = takes_no k

pub kind_is : (o : Option Row) (w : rows.Row) (n : ℕ) → w ≡ row_in o → n ≡ row_no w → n ≡ row_takes o
kind_is o w n e f = f ∙ ap row_no e ∙ go o
  where
    go : (x : Option Row) → row_no (row_in x) ≡ row_takes x
    go none = refl
    go (some y) = takes_numbered y.takes

row_none : (o : Option Row) → row_takes o ≡ 10 → o ≡ none
row_none none e = refl
row_none (some w) e = absurd (omega (arith, e, ten_kinds w.takes))

a_row : (o : Option Row) → ¬ (row_takes o ≡ 10) → (w : Row) × (o ≡ some w)
a_row none e = absurd (e refl)
a_row (some w) e = (w, refl)

not_both : false ≡ true → ⊥
not_both e = let z : ◌≡◌ {A = ℕ} 0 1 = ap (λ (b : Bool). elim b as (λ v. ℕ) [ false ↦ 0 | true ↦ 1 ]) e in omega arith

-- the kind read from the words is that of the place
kind_of_place : (s : State) (W : List Word) (pl : Place) (i : ℕ) → StandsAt s W pl i → takes_in W i ≡ takes_number (kind_at pl)
kind_of_place s W (at χ n) i t = kind_words (number_in (names s)) n t

-- ---------------------------------------------------------------------------------------------
-- The step by its row, its place and its condition.

module _ (W D : List Word) (r p a : ℕ) where
  pub no_row : row_takes (rule_row r) ≡ 10 → Refuses W D (step_of r p a) 10
  unfolding step
  no_row e s m = ap (after_rule most_parts (program_of s) (config_of s) r p a) (row_none (rule_row r) e)

  by_row : (s : State) (w : Row) → rule_row r ≡ some w → step most_parts (program_of s) (config_of s) (step_of r p a) ≡ after_place most_parts (program_of s) (config_of s) r a w (argument_fits (config_of s) r a) (place (config_of s) p)
  unfolding step
  by_row s w e = ap (after_rule most_parts (program_of s) (config_of s) r p a) e

  pub nowhere : ¬ (row_takes (rule_row r) ≡ 10) → length W ≤ place_at W p → Refuses W D (step_of r p a) 11
  nowhere n h s m =
      let w = a_row (rule_row r) n in
      by_row s w.0 w.1 ∙ ap (after_place most_parts (program_of s) (config_of s) r a w.0 (argument_fits (config_of s) r a)) (no_place_of W D s p m h)

  pub bad_argument : ¬ (row_takes (rule_row r) ≡ 10) → argument_there W r a ≡ false → Refuses W D (step_of r p a) 11
  bad_argument n h s m =
      let w = a_row (rule_row r) n in
      by_row s w.0 w.1
      ∙ ap (λ (b : Bool). after_place most_parts (program_of s) (config_of s) r a w.0 b (place (config_of s) p)) (argument_is W D s r a m ∙ h)
      ∙ go w.0 (place (config_of s) p)
    where
      go : (w : Row) (o : Option Place) → after_place most_parts (program_of s) (config_of s) r a w false o ≡ refused 11
      go w none = refl
      go w (some pl) = refl

  -- its rule has a row, its place stands at i and its argument is as it must be
  pub record Placed (i : ℕ) : Type 0 where
    pub is_rule : ¬ (row_takes (rule_row r) ≡ 10)
    pub found : i ≡ place_at W p
    pub within : i < length W
    pub argument : argument_there W r a ≡ true

  pub placed : (i n c : ℕ) (b : Bool) → n ≡ row_takes (rule_row r) → ¬ (n ≡ 10) → i ≡ place_at W p → i ≤ length W → c ≡ length W → ¬ (i ≡ c) → b ≡ argument_there W r a → b ≡ true → Placed i
  placed i n c b e x f l m y g z = record { is_rule = λ q. x (e ∙ q); found = f; within = omega (arith, l, m, y); argument = sym g ∙ z }

  -- the step from there on
  rest : (s : State) (w : Row) (pl : Place) (i : ℕ) → Meant W D s → Placed i → rule_row r ≡ some w → place (config_of s) p ≡ some pl
      → step most_parts (program_of s) (config_of s) (step_of r p a) ≡ after_place most_parts (program_of s) (config_of s) r a w true (some pl)
  rest s w pl i m q e f =
      by_row s w e ∙ ap₂ (after_place most_parts (program_of s) (config_of s) r a w) (argument_is W D s r a m ∙ q.argument) f

  there : (s : State) (i : ℕ) → Meant W D s → Placed i → (pl : Place) × (place (config_of s) p ≡ some pl) × StandsAt s W pl i
  there s i m q =
      let h = place_of W D s p m (subst (λ (j : ℕ). j < length W) q.found q.within) in
      (h.0, h.1, subst (λ (j : ℕ). StandsAt s W h.0 j) (sym q.found) h.2)

  pub other_kind : (i v n : ℕ) → Placed i → v ≡ takes_in W i → n ≡ row_takes (rule_row r) → ¬ (v ≡ n) → Refuses W D (step_of r p a) 12
  other_kind i v n q e f d s m =
      let w = a_row (rule_row r) q.is_rule in
      let h = there s i m q in
      let k : v ≡ takes_number (kind_at h.0) = e ∙ kind_of_place s W h.0 i h.2 in
      let l : n ≡ takes_number w.0.takes = f ∙ ap row_takes w.1 in
      rest s w.0 h.0 i m q w.1 h.1
      ∙ ap (λ (b : Bool). elim b as (λ z. Result Config) [ false ↦ refused 12 | true ↦ after_condition most_parts (argument_stable (program_of s) (config_of s) r h.0 a) (effect (program_of s) (config_of s).next r h.0) ])
      (ne_eqb (takes_number (kind_at h.0)) (takes_number w.0.takes) (λ z. d (k ∙ z ∙ sym l)))

  -- and its kind is the one that the rule takes
  module _ (i v n : ℕ) (q : Placed i) (e : v ≡ takes_in W i) (f : n ≡ row_takes (rule_row r)) (d : v ≡ n) where
    takes_there : (s : State) → Meant W D s → (pl : Place) × (place (config_of s) p ≡ some pl) × Takes s W r pl i
    takes_there s m =
        let w = a_row (rule_row r) q.is_rule in
        let h = there s i m q in
        let k : takes_number (kind_at h.0) ≡ takes_number w.0.takes = sym (kind_of_place s W h.0 i h.2) ∙ sym e ∙ d ∙ f ∙ ap row_takes w.1 in
        (h.0, h.1, record { stands = h.2; row = w.0; is_row = w.1; fits = subst T (sym (eq-eqb (takes_number (kind_at h.0)) (takes_number w.0.takes) k)) tt })

    pub can_take : CanDecide W D → CanTake W D r a i
    can_take c =
        let h = takes_there c.state c.meant in
        record { state = c.state; place = h.0; meant = c.meant; takes = h.2; argument = q.argument }

    -- what is left is its condition
    condition_left : (s : State) (m : Meant W D s) → let pl = (takes_there s m).0 in
        step most_parts (program_of s) (config_of s) (step_of r p a) ≡ after_condition most_parts (argument_stable (program_of s) (config_of s) r pl a) (effect (program_of s) (config_of s).next r pl)
    condition_left s m =
        let h = takes_there s m in
        let t = h.2 in
        rest s t.row h.0 i m q t.is_row h.1 ∙ go (fits_row t.row h.0) t.fits _
      where
        go : (b : Bool) → T b → (x : Result Config) → (elim b as (λ z. Result Config) [ false ↦ refused 12 | true ↦ x ]) ≡ x
        go false t x = elim t [ ]
        go true t x = refl

    pub no_condition : (b : Bool) → HasCondition W D r a i b → b ≡ false → Refuses W D (step_of r p a) 13
    no_condition b c y s m =
        let h = takes_there s m in
        condition_left s m ∙ go (argument_stable (program_of s) (config_of s) r h.0 a) (effect (program_of s) (config_of s).next r h.0) (sym y ∙ c.right s h.0 m h.2)
      where
        go : (b : Bool) (o : Option Config) → false ≡ is_some o && b → after_condition most_parts b o ≡ refused 13
        go b none z = refl
        go false (some x) z = refl
        go true (some x) z = absurd (not_both z)

    pub goes : (b : Bool) → HasCondition W D r a i b → b ≡ true → Goes W D (step_of r p a) i
    goes b c y s m =
        let h = takes_there s m in
        let g = go (argument_stable (program_of s) (config_of s) r h.0 a) (effect (program_of s) (config_of s).next r h.0) (sym y ∙ c.right s h.0 m h.2) in
        record { at_place = h.0; takes = h.2; after = g.0; leads = g.1; limits = condition_left s m ∙ g.2 }
      where
        go : (b : Bool) (o : Option Config) → true ≡ is_some o && b → (x : Config) × (o ≡ some x) × (after_condition most_parts b o ≡ within_limits most_parts x)
        go b none z = absurd (not_both (sym z))
        go false (some x) z = absurd (not_both (sym z))
        go true (some x) z = (x, refl, refl)
