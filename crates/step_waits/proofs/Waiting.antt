-- What the code finds of the questions of rules 6, 7 and 8. Assumes nothing.
use mathlib.Core.Path.{◌≡◌, refl, ap, sym, ◌∙◌, subst}
use mathlib.Core.Bool.{Bool, true, false, ◌||◌, not}
use mathlib.Core.Logic.{◌⊎◌, inl, inr}
use mathlib.Core.List.{List}
use Prim.Native.Nat.{ℕ, ◌+◌, ◌-◌, ◌<◌, ◌≤◌}
use native.Mathlib.Omega.{arith}
use lib.ListN.{get_or}
use borrow.Author.Tests.{eq-eqb, ne_eqb}
use Rattle.mem_words.specs.declared.Word.{Word}
use Rattle.mem_sorts.specs.declared.Kind.TheVariants.{Guarded, Wait, Cond, Commit}
use Rattle.work_tables.specs.Tables.{CanRead}
use Rattle.rule_words.specs.Scans.{around}
use Rattle.rule_effects.specs.Conditions.{kind_at, solved_at, right_at, left_at, one_at}
use Rattle.rule_kinds.specs.Kinds.{takes_in}
use Rattle.rule_applies.specs.declared.Asks.TheVariants.{Quiet}
use Rattle.rule_applies.specs.Asking.{asks_in}
use Rattle.step_path.specs.Paths.{path_of}
use Rattle.step_path.proofs.Passing.{path_few, path_around}
use Rattle.step_waits.specs.Waits.{Sole, Operator, Beside, Waits, CanWait, IsSole, Operates, IsBeside, IsWaiting}
use Rattle.step_waits.proofs.Asking.{differ, tests_6, tests_7, tests_8, ask_6, ask_7, ask_8, cond_wait, cond_commit, commit_wait, cond_takes, commit_takes, guarded_takes, guarded_opens, around_low, takes_guarded, takes_choice}

module _ (W : List Word) (g j : ℕ) where
  same_place : (p q : ℕ) → j ≡ p + 2 → q ≡ j - 2 → p ≡ q
  same_place p q e f = omega (arith, e, f)

  next_place : (p q : ℕ) → j ≡ p + 1 → q ≡ j - 1 → p ≡ q
  next_place p q e f = omega (arith, e, f)

  -- the choice-box is not inside the goal
  pub sole_outside : j < g + 3 → IsSole W g j false
  sole_outside h = record { is = λ p. omega (arith, h, p.here, p.inside) }

  -- a choice-box of another operator than `?` at c; r says whether it has one guarded goal
  module _ (c : ℕ) (ec : c ≡ j - 2) (l : g + 3 ≤ j) (so : solved_at W j ≡ true) where
    two_more : c + 2 ≡ j
    two_more = omega (arith, ec, l)

    sole_one : kind_at W c Wait ≡ false → takes_in W c ≡ 5 → (r : Bool) → r ≡ one_at W c → IsSole W g j r
    sole_one w t true e = record { is = record { place = c; here = sym two_more; inside = omega (arith, ec, l); takes = t; asks = ask_6 W c (sym e) (ap (solved_at W) two_more ∙ so) w } }
    sole_one w t false e = record { is = λ p. differ (e ∙ ap (one_at W) (sym (same_place p.place c p.here ec)) ∙ (tests_6 W p.place p.asks).0) }

    pub sole_cond : (b : Bool) → b ≡ kind_at W c Cond → b ≡ true → (r : Bool) → r ≡ one_at W c → IsSole W g j r
    sole_cond b eb zb = sole_one (cond_wait W c (sym eb ∙ zb)) (cond_takes W c (sym eb ∙ zb))

    pub sole_commit : (b : Bool) → b ≡ kind_at W c Commit → b ≡ true → (r : Bool) → r ≡ one_at W c → IsSole W g j r
    sole_commit b eb zb = sole_one (commit_wait W c (sym eb ∙ zb)) (commit_takes W c (sym eb ∙ zb))

    pub sole_neither : (a b : Bool) → a ≡ kind_at W c Cond → a ≡ false → b ≡ kind_at W c Commit → b ≡ false → IsSole W g j false
    sole_neither a b ea za eb zb = record { is = λ p. go p.place (same_place p.place c p.here ec) (takes_choice W p.place p.takes (tests_6 W p.place p.asks).2) }
      where
        go : (p : ℕ) → p ≡ c → (kind_at W p Cond ≡ true) ⊎ (kind_at W p Commit ≡ true) → ⊥
        go p q (inl h) = differ (sym za ∙ ea ∙ ap (λ (i : ℕ). kind_at W i Cond) (sym q) ∙ h)
        go p q (inr h) = differ (sym zb ∙ eb ∙ ap (λ (i : ℕ). kind_at W i Commit) (sym q) ∙ h)

  -- a guard is one word behind its guarded goal
  pub solved_behind : g + 2 ≤ j → solved_at W j ≡ true → solved_at W (j - 1 + 1) ≡ true
  solved_behind l so = let e : j - 1 + 1 ≡ j = omega arith in ap (solved_at W) e ∙ so

  -- the choice-box is around the guarded goal
  module _ (X : List ℕ) (h : ℕ) (c : CanWait W X g j h) (l : g + 2 ≤ j) (b : Bool) (eb : b ≡ kind_at W (j - 1) Guarded) (zb : b ≡ true) where
    around_it : (2 ≤ h) × (get_or (path_of X) (h - 2) 0 ≡ around W (j - 1))
    around_it = path_around c.path (j - 1) refl l (guarded_opens W (j - 1) (sym eb ∙ zb))

    pub two_open : 2 ≤ h
    two_open = around_it.0

    pub can_look : CanRead X 28672 (h - 2)
    can_look = let p = path_few c.path in record { laid = c.laid; inside = omega (arith, p, c.low, c.few, two_open) }

    pub choice_around : (r : ℕ) → r ≡ get_or (path_of X) (h - 2) 0 → (r ≡ around W (j - 1)) × (r ≤ j - 1)
    choice_around r e =
        let q : r ≡ around W (j - 1) = e ∙ around_it.1 in
        (q, omega (arith, q, around_low W (j - 1) (omega (arith, l))))

  -- the guarded goal is not inside the goal, or none begins there
  pub beside_outside : j < g + 2 → IsBeside W g j false
  beside_outside h = record { is = λ p. omega (arith, h, p.here, p.inside) }

  module _ (i : ℕ) (ei : i ≡ j - 1) (l : g + 2 ≤ j) where
    pub beside_none : (b : Bool) → b ≡ kind_at W i Guarded → b ≡ false → IsBeside W g j false
    beside_none b eb zb = record { is = λ p. differ (sym zb ∙ eb ∙ ap (λ (x : ℕ). kind_at W x Guarded) (sym (next_place p.place i p.here ei)) ∙ takes_guarded W p.place p.takes) }

    -- the operator decides
    pub beside_asked : (b : Bool) → b ≡ kind_at W i Guarded → b ≡ true → (r : Bool) → Operates W i r → IsBeside W g j r
    beside_asked b eb zb true o = record { is = record { place = i; here = omega (arith, ei, l); inside = omega (arith, ei, l); takes = guarded_takes W i (sym eb ∙ zb); asks = o.is } }
    beside_asked b eb zb false o = record { is = λ p. o.is (subst (Operator W) (next_place p.place i p.here ei) p.asks) }

  -- the guard is not solved
  pub not_solved : (b : Bool) → b ≡ solved_at W j → b ≡ false → IsWaiting W g j false
  not_solved b eb zb = record { is = go }
    where
      six : (p : Sole W g j) → ⊥
      six p = differ (sym zb ∙ eb ∙ ap (solved_at W) p.here ∙ (tests_6 W p.place p.asks).1)

      other : (p : Beside W g j) (o : Operator W p.place) → ⊥
      other p (inl x) = differ (sym zb ∙ eb ∙ ap (solved_at W) p.here ∙ (tests_7 W p.place x).1)
      other p (inr x) = differ (sym zb ∙ eb ∙ ap (solved_at W) p.here ∙ (tests_8 W p.place x).1)

      go : Waits W g j → ⊥
      go (inl p) = six p
      go (inr p) = other p p.asks

  pub waits_sole : (b : Bool) → IsSole W g j b → b ≡ true → IsWaiting W g j true
  waits_sole b s z = record { is = inl (subst (λ (x : Bool). IsSole W g j x) z s).is }

  pub waits_beside : (b r : Bool) → IsSole W g j b → b ≡ false → IsBeside W g j r → IsWaiting W g j r
  waits_beside b true s z o = record { is = inr o.is }
  waits_beside b false s z o = record { is = go }
    where
      go : Waits W g j → ⊥
      go (inl p) = (subst (λ (x : Bool). IsSole W g j x) z s).is p
      go (inr p) = o.is p

-- the guarded goal at i in the choice-box at c
module _ (W : List Word) (c i : ℕ) (ec : c ≡ around W i) (so : solved_at W (i + 1) ≡ true) where
  at_c : (n : _) → kind_at W c n ≡ kind_at W (around W i) n
  at_c n = ap (λ (x : ℕ). kind_at W x n) ec

  or_right : (a b : Bool) → a ≡ false → a || b ≡ b
  or_right true b e = absurd (differ (sym e))
  or_right false b e = refl

  -- with `->`
  pub operator_cond : (b : Bool) → b ≡ kind_at W c Cond → b ≡ true → (r : Bool) → r ≡ right_at W i → Operates W i r
  operator_cond b eb zb true er = record { is = inl (ask_7 W i (sym (at_c Cond) ∙ sym eb ∙ zb) so (sym er)) }
  operator_cond b eb zb false er = record { is = go }
    where
      go : Operator W i → ⊥
      go (inl x) = differ (er ∙ (tests_7 W i x).2)
      go (inr x) = differ (sym (cond_commit W (around W i) (sym (at_c Cond) ∙ sym eb ∙ zb)) ∙ (tests_8 W i x).0)

  module _ (a b : Bool) (ea : a ≡ kind_at W c Cond) (za : a ≡ false) (eb : b ≡ kind_at W c Commit) where
    no_cond : Quiet (i + 1) ≡ asks_in W i 7 → ⊥
    no_cond x = differ (sym za ∙ ea ∙ at_c Cond ∙ (tests_7 W i x).0)

    -- with `|`: the first
    pub operator_first : b ≡ true → c + 1 ≡ i → (r : Bool) → r ≡ right_at W i → Operates W i r
    unfolding left_at
    operator_first zb f r er = go r er
      where
        left : left_at W i ≡ false
        left = let q : around W i + 1 ≡ i = sym (ap (λ (x : ℕ). x + 1) ec) ∙ f in ap not (eq-eqb (around W i + 1) i q)

        go : (r : Bool) → r ≡ right_at W i → Operates W i r
        go true e = record { is = inr (ask_8 W i (sym (at_c Commit) ∙ sym eb ∙ zb) so (or_right (left_at W i) (right_at W i) left ∙ sym e)) }
        go false e = record { is = λ x. no x }
          where
            no : Operator W i → ⊥
            no (inl x) = no_cond x
            no (inr x) = differ (e ∙ sym (or_right (left_at W i) (right_at W i) left) ∙ (tests_8 W i x).2)

    -- a later one
    pub operator_later : b ≡ true → (c + 1 ≡ i → ⊥) → Operates W i true
    unfolding left_at
    operator_later zb f = record { is = inr (ask_8 W i (sym (at_c Commit) ∙ sym eb ∙ zb) so (ap (λ (x : Bool). x || right_at W i) left)) }
      where
        left : left_at W i ≡ true
        left = ap not (ne_eqb (around W i + 1) i (λ q. f (ap (λ (x : ℕ). x + 1) ec ∙ q)))

    pub operator_neither : b ≡ false → Operates W i false
    operator_neither zb = record { is = go }
      where
        go : Operator W i → ⊥
        go (inl x) = no_cond x
        go (inr x) = differ (sym zb ∙ eb ∙ at_c Commit ∙ (tests_8 W i x).0)
