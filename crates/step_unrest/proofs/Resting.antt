-- Unrest from what the rules and the solver say.
use mathlib.Core.Path.{◌≡◌, refl, ap, sym, ◌∙◌, subst}
use mathlib.Core.Bool.{Bool, true, false, ◌&&◌, ◌||◌, not}
use mathlib.Core.List.{List, [], ◌++◌}
use Prim.Native.Nat.{ℕ, ◌+◌, ◌<◌, ◌≤◌}
use native.Mathlib.Omega.{arith}
use Rattle.constraint.specs.Constraint.{Store}
use Rattle.constraint.specs.Solve.{quiet?}
use Rattle.akl.specs.Base.{all, size}
use Rattle.akl.specs.Limits.{most_parts}
use Rattle.akl.specs.Configuration as akl
use Rattle.akl.specs.Configuration.{Node, or, and, stmt, choice_box, guard, Ctx, env}
use Rattle.akl.specs.Places.{Place, at}
use Rattle.akl.specs.Table as akl_table
use Rattle.akl.specs.Table.{takes_number, kind_at}
use Rattle.akl.specs.Stability.{locals}
use Rattle.accept.specs.AtPlaces.{stores_at}
use Rattle.mem_words.specs.declared.Word.{Word}
use Rattle.store_form.specs.State.{State, table, number_in}
use Rattle.store_form.specs.Form.{config_words}
use Rattle.store_room.proofs.Placed.{room_inside}
use Rattle.store_room.proofs.Drawing.{roomy_stores}
use Rattle.store_room.proofs.Answered.{quiet_state}
use Rattle.rule_effects.specs.Effects.{behind}
use Rattle.rule_effects.specs.Standing.{Stands}
use Rattle.rule_ranges.specs.Ranges.{ranges_from}
use Rattle.rule_ranges.specs.Asked.{Roomy, RoomFor, QuietIn}
use Rattle.rule_kinds.specs.Kinds.{takes_in}
use Rattle.step_meant.specs.Meant.{Meant, StandsAt}
use Rattle.step_meant.specs.Asked.{Unrest}
use Rattle.step_applies.proofs.Meanings.{stands_low, root_is}
use Rattle.step_applies.proofs.Laws.{CanQuiet, or_not, statement_not}
use Rattle.step_unrest.specs.Disturbing.{CanPlace, Disturbed}
use Rattle.step_unrest.proofs.Placing.{place_there, kind_is, no_place_there}

-- ---------------------------------------------------------------------------------------------
-- The stores of an and-box.

module _ (W D : List Word) (g j : ℕ) (a : g ≤ j) (b : j < behind W g) where
  -- the room that the solver needs
  ready : (s : State) (goal pl : Place) → Meant W D s → StandsAt s W goal g → StandsAt s W pl j → takes_number (kind_at pl) ≡ 7 → CanQuiet W g j
  unfolding kind_at
  ready s (at χ n) (at χ' (or ns)) m p q e = absurd (or_not χ' e)
  ready s (at χ n) (at χ' (stmt x)) m p q e = absurd (statement_not x e)
  ready s (at χ n) (at χ' (choice_box op gs)) m p q e = absurd (omega (arith, e))
  ready s (at χ n) (at χ' (guard x y)) m p q e = absurd (omega (arith, e))
  ready s (at χ n) (at χ' (and vs σ ms)) m p q e =
      let num = number_in (table s) in
      let U = config_words s in
      let c = m.config in
      let R : RoomFor U (ranges_from U 0 g ++ ranges_from U g (j + 1)) =
      room_inside s m.stands χ n g χ' vs σ ms j (subst (λ (X : List Word). Stands num χ n [] X g) c p) (root_is m q) (subst (λ (X : List Word). Stands num χ' (and vs σ ms) [] X j) c q) a (subst (λ (X : List Word). j < behind X g) c b) in
      record {
        roomy = subst Roomy (sym c) (roomy_stores s m.stands);
        order = a;
        low = stands_low num q;
        room = subst (λ (X : List Word). RoomFor X (ranges_from X 0 g ++ ranges_from X g (j + 1))) (sym c) R;
      }

  and_one : (x : Bool) → (x && true) ≡ x
  and_one true = refl
  and_one false = refl

  -- the solver's answer
  pub answer : (s : State) {k : akl.Kind} (χ : Ctx k) (n : Node k) (pl : Place) (r : Bool) → Meant W D s → Stands (number_in (table s)) χ n [] W g → StandsAt s W pl j → takes_number (kind_at pl) ≡ 7 → QuietIn W g j r
      → r ≡ all (quiet? (locals n) (env χ)) (stores_at pl)
  unfolding kind_at all and_one
  answer s χ n (at χ' (or ns)) r m p q e x = absurd (or_not χ' e)
  answer s χ n (at χ' (stmt y)) r m p q e x = absurd (statement_not y e)
  answer s χ n (at χ' (choice_box op gs)) r m p q e x = absurd (omega (arith, e))
  answer s χ n (at χ' (guard y z)) r m p q e x = absurd (omega (arith, e))
  answer s χ n (at χ' (and vs σ ms)) r m p q e x =
      let num = number_in (table s) in
      let c = m.config in
      quiet_state most_parts s m.stands χ n g χ' vs σ ms j r (root_is m p) (subst (λ (X : List Word). Stands num χ n [] X g) c p) (root_is m q) (subst (λ (X : List Word). Stands num χ' (and vs σ ms) [] X j) c q) a (subst (λ (X : List Word). j < behind X g) c b)
      (subst (λ (X : List Word). QuietIn X g j r) c x) ∙ sym (and_one (quiet? (locals n) (env χ) (env χ' ++ σ)))

  pub can_quiet_in : (k : ℕ) → CanPlace W D g j → k ≡ takes_in W j → k ≡ 7 → CanQuiet W g j
  can_quiet_in k c e z = ready c.state c.goal c.place c.meant c.goal_stands c.stands (sym (kind_is W j c.state c.place c.stands) ∙ sym e ∙ z)

-- other places have none
no_stores : (pl : Place) → (takes_number (kind_at pl) ≡ 7 → ⊥) → stores_at pl ≡ []
unfolding kind_at
no_stores (at χ (or ns)) h = refl
no_stores (at χ (and vs σ ms)) h = absurd (h refl)
no_stores (at χ (stmt x)) h = refl
no_stores (at χ (choice_box op gs)) h = refl
no_stores (at χ (guard x y)) h = refl

-- ---------------------------------------------------------------------------------------------
-- Each way that it is found.

module _ (W D : List Word) (g j k : ℕ) (e : k ≡ takes_in W j) where
  not_true_false : false ≡ true → ⊥
  not_true_false z = let y : ◌≡◌ {A = ℕ} 0 1 = ap (λ (x : Bool). elim x [ true ↦ 1 | false ↦ 0 ]) z in omega (arith, y)

  -- no place
  pub no_unrest : k ≡ 10 → Unrest W D g j false
  no_unrest z = record {
    right = λ s χ n pl m p q. absurd (no_place_there W j s pl q (omega (arith, e, z)));
    found = λ y s m. absurd (not_true_false y);
  }

  module _ (h : k ≡ 10 → ⊥) where
    there : (b : Bool) → b ≡ true → (s : State) → Meant W D s → (pl : Place) × StandsAt s W pl j
    there b y s m = place_there W D j s m (λ z. h (e ∙ z))

    -- a determinate rule
    pub moved : (b : Bool) → Disturbed W D g j b → b ≡ true → Unrest W D g j true
    unfolding size akl_table.table
    moved b d y = record {
      right = λ s χ n pl m p q. sym (ap (λ (x : Bool). x || not (all (quiet? (locals n) (env χ)) (stores_at pl))) (sym (d.right s χ n pl m p q) ∙ y));
      found = there true;
    }

    -- no such rule: the stores decide
    by_stores : (b r : Bool) → Disturbed W D g j b → b ≡ false → ((s : State) (κ : akl.Kind) (χ : Ctx κ) (n : Node κ) (pl : Place) → Meant W D s → StandsAt s W (at χ n) g → StandsAt s W pl j → r ≡ not (all (quiet? (locals n) (env χ)) (stores_at pl))) → Unrest W D g j r
    unfolding size akl_table.table
    by_stores b r d y f = record {
      right = λ s χ n pl m p q. f s _ χ n pl m p q ∙ sym (ap (λ (x : Bool). x || not (all (quiet? (locals n) (env χ)) (stores_at pl))) (sym (d.right s χ n pl m p q) ∙ y));
      found = there r;
    }

    pub no_and_box : (b : Bool) → Disturbed W D g j b → b ≡ false → (k ≡ 7 → ⊥) → Unrest W D g j false
    unfolding all
    no_and_box b d y o = by_stores b false d y (λ s κ χ n pl m p q.
        sym (ap (λ (l : List Store). not (all (quiet? (locals n) (env χ)) l)) (no_stores pl (λ z. o (e ∙ kind_is W j s pl q ∙ z)))))

    -- where there are no stores the rules decide
    pub by_rules : (b : Bool) → Disturbed W D g j b → (k ≡ 7 → ⊥) → Unrest W D g j b
    by_rules true d o = moved true d refl
    by_rules false d o = no_and_box false d refl o

    stores_say : (b r : Bool) → g ≤ j → j < behind W g → Disturbed W D g j b → b ≡ false → k ≡ 7 → QuietIn W g j r → Unrest W D g j (not r)
    stores_say b r a c d y z x = by_stores b (not r) d y (λ s κ χ n pl m p q. ap not (answer W D g j a c s χ n pl r m p q (sym (kind_is W j s pl q) ∙ sym e ∙ z) x))

    pub quiet_stores : (b r : Bool) → g ≤ j → j < behind W g → Disturbed W D g j b → b ≡ false → k ≡ 7 → QuietIn W g j r → r ≡ true → Unrest W D g j false
    quiet_stores b r a c d y z x v = subst (λ (u : Bool). Unrest W D g j (not u)) v (stores_say b r a c d y z x)
