-- The step accepts exactly what the relation and the limits allow, and gives exactly its result.
use mathlib.Core.Path.{◌≡◌, refl, ap, sym, ◌∙◌, subst}
use mathlib.Core.Logic.{◌↔◌}
use mathlib.Core.Bool.{Bool, true, false, not}
use mathlib.Core.Option.{Option, some, none}
use Prim.Native.Nat.{ℕ, suc, ◌≤◌}
use native.Mathlib.Omega.{arith}
use lib.Dec.{T, ltb, eqb, ltb→lt, nltb→le, eqb→eq, eqb_refl}
use Rattle.constraint.proofs.Lists.{and_T}
use Rattle.akl.specs.Base.{is_some, if, Result, refused, ok}
use Rattle.akl.specs.Limits.{last_number}
use Rattle.akl.specs.Syntax.{Program}
use Rattle.akl.specs.StepsText.{Step}
use Rattle.akl.specs.Configuration.{Config}
use Rattle.akl.specs.Places.{Place, at, place, holder_number}
use Rattle.akl.specs.Parts.{parts}
use Rattle.akl.specs.Table.{Row, rule_row}
use Rattle.akl.specs.Rules.{Change, effect}
use Rattle.akl.specs.Stability.{fits_row, stable}
use Rattle.akl.specs.Step.{splitting, argument_fits, holds_box, box_of, stable_around, argument_stable, within_limits, after_condition, after_place, after_rule, step}
use Rattle.accept.specs.Accepts.{Contains, StableAround, Accepts}
use Rattle.accept.proofs.Effects.{effect_complete}
use Rattle.accept.proofs.EffectSound.{whole, effect_sound}
use Rattle.accept.proofs.PlaceLaws.{place_whole}
use Rattle.accept.proofs.Within.{holds_iff}
use Rattle.accept.proofs.Stable.{transition_row, inside_T, stable_iff}

refused_ok : {A : Type 0} (n : ℕ) (a : A) → ◌≡◌ {A = Result A} (refused n) (ok a) → ⊥
refused_ok n a q = let z : ◌≡◌ {A = ℕ} 0 1 = cc in omega arith

ok_inj : {A : Type 0} (a b : A) → ◌≡◌ {A = Result A} (ok a) (ok b) → a ≡ b
ok_inj a b e = cc e

-- ---------------------------------------------------------------------------------------------
-- Limits.

pub limits_iff : (limit : ℕ) (c d : Config) → (within_limits limit c ≡ ok d) ↔ ((c ≡ d) × (c.next ≤ suc last_number) × (parts c.root ≤ limit))
unfolding within_limits
limits_iff limit c d = (λ e. to_it (ltb (suc last_number) c.next) (ltb limit (parts c.root)) refl refl e, λ h. from_it (ltb (suc last_number) c.next) (ltb limit (parts c.root)) refl refl h)
  where
    low : (a b : ℕ) → ltb a b ≡ false → b ≤ a
    low a b e = nltb→le a b (subst (λ x. T (not x)) (sym e) tt)

    high : (a b : ℕ) → ltb a b ≡ true → b ≤ a → ⊥
    high a b e h = omega (arith, ltb→lt a b (subst T (sym e) tt))

    to_it : (x y : Bool) → ltb (suc last_number) c.next ≡ x → ltb limit (parts c.root) ≡ y → if x (refused 14) (if y (refused 15) (ok c)) ≡ ok d → (c ≡ d) × (c.next ≤ suc last_number) × (parts c.root ≤ limit)
    to_it true y p q e = absurd (refused_ok 14 d e)
    to_it false true p q e = absurd (refused_ok 15 d e)
    to_it false false p q e = (ok_inj c d e, low (suc last_number) c.next p, low limit (parts c.root) q)

    from_it : (x y : Bool) → ltb (suc last_number) c.next ≡ x → ltb limit (parts c.root) ≡ y → (c ≡ d) × (c.next ≤ suc last_number) × (parts c.root ≤ limit) → if x (refused 14) (if y (refused 15) (ok c)) ≡ ok d
    from_it true y p q h = absurd (high (suc last_number) c.next p h.1)
    from_it false true p q h = absurd (high limit (parts c.root) q h.2)
    from_it false false p q h = ap (λ x. ok x) h.0

-- ---------------------------------------------------------------------------------------------
-- The argument.

module _ (P : Program) (c : Config) where
  holds_T : (q pl : Place) → whole q ≡ c.root → whole pl ≡ c.root → T (holds_box q (box_of pl)) ↔ Contains q pl
  holds_T (at χ n) (at χ' m) e f =
      let a = inside_T χ n (holder_number χ') in
      let b = holds_iff c χ n χ' m e f in
      (λ h. b.0 (a.0 h), λ h. a.1 (b.1 h))

  around_iff : (pl : Place) (a : ℕ) → whole pl ≡ c.root → T (stable_around P c pl (place c a)) ↔ StableAround P c pl a
  around_iff pl a f = (λ t. to_it (place c a) refl t, λ h. subst (λ o. T (stable_around P c pl o)) (sym h.is_place) ((and_T (holds_box h.around (box_of pl)) (stable P c h.around)).1 ((holds_T h.around pl (place_whole c a h.around h.is_place) f).1 h.contains, (stable_iff P c h.around (place_whole c a h.around h.is_place)).1 h.stable)))
    where
      to_it : (o : Option Place) → place c a ≡ o → T (stable_around P c pl o) → StableAround P c pl a
      to_it none e t = elim t [ ]
      to_it (some q) e t =
          let k = (and_T (holds_box q (box_of pl)) (stable P c q)).0 t in
          record { around = q; is_place = e; contains = (holds_T q pl (place_whole c a q e) f).0 k.0; stable = (stable_iff P c q (place_whole c a q e)).0 k.1 }

  -- both tests of the argument together
  abbrev Argument : ℕ → ℕ → Place → Type 0
  Argument r a pl = (¬ (r ≡ splitting) → a ≡ 0) × (r ≡ splitting → StableAround P c pl a)

  argument_iff : (r a : ℕ) (pl : Place) → whole pl ≡ c.root → (T (argument_fits c r a) × T (argument_stable P c r pl a)) ↔ Argument r a pl
  unfolding argument_fits argument_stable
  argument_iff r a pl f = go (eqb r splitting) (λ t. eqb→eq r splitting t) (λ e. subst (λ x. T (eqb x splitting)) (sym e) (eqb_refl splitting))
    where
      known : (o : Option Place) → T (stable_around P c pl o) → T (is_some o)
      known none t = elim t [ ]
      known (some q) t = tt

      go : (b : Bool) → (T b → r ≡ splitting) → (r ≡ splitting → T b) → (T (if b (is_some (place c a)) (eqb a 0)) × T (if b (stable_around P c pl (place c a)) true)) ↔ Argument r a pl
      go true u g = (λ h. (λ n. absurd (n (u tt)), λ e. (around_iff pl a f).0 h.1), λ h. let s = (around_iff pl a f).1 (h.1 (u tt)) in (known (place c a) s, s))
      go false u g = (λ h. (λ n. eqb→eq a 0 h.0, λ e. absurd (g e)), λ h. (subst (λ x. T (eqb x 0)) (sym (h.0 (λ e. g e))) (eqb_refl 0), tt))

-- ---------------------------------------------------------------------------------------------
-- The step.

module _ (limit : ℕ) (P : Program) (c : Config) (s : Step) (d : Config) where
  to_accept : step limit P c s ≡ ok d → Accepts limit P c s d
  unfolding step
  to_accept e = by_row (rule_row s.rule) refl e
    where
      by_effect : (w : Row) (pl : Place) → rule_row s.rule ≡ some w → place c s.place ≡ some pl → T (fits_row w pl) → T (argument_fits c s.rule s.argument) → (b : Bool) → argument_stable P c s.rule pl s.argument ≡ b → (o : Change) → effect P c.next s.rule pl ≡ o → after_condition limit b o ≡ ok d → Accepts limit P c s d
      by_effect w pl ew ep k af b eb none eo e = absurd (refused_ok 13 d e)
      by_effect w pl ew ep k af false eb (some m) eo e = absurd (refused_ok 13 d e)
      by_effect w pl ew ep k af true eb (some m) eo e =
          let l = (limits_iff limit m d).0 e in
          let f = effect_sound P c.next s.rule pl w d ew k (eo ∙ ap (λ x. some x) l.0) in
          let a = (argument_iff P c s.rule s.argument pl (place_whole c s.place pl ep)).0 (af, subst T (sym eb) tt) in
          record { at_place = pl; is_place = ep; kind = f.kind; context = f.context; before = f.before; after = f.after; transition = f.transition; result = f.result; no_argument = a.0; argument = a.1; numbers_left = subst (λ x. x.next ≤ suc last_number) l.0 l.1; fit = subst (λ x. parts x.root ≤ limit) l.0 l.2 }

      by_kind : (w : Row) (pl : Place) → rule_row s.rule ≡ some w → place c s.place ≡ some pl → T (argument_fits c s.rule s.argument) → (b : Bool) → fits_row w pl ≡ b → elim b as (λ x. Result Config) [ false ↦ refused 12 | true ↦ after_condition limit (argument_stable P c s.rule pl s.argument) (effect P c.next s.rule pl) ] ≡ ok d → Accepts limit P c s d
      by_kind w pl ew ep af false eb e = absurd (refused_ok 12 d e)
      by_kind w pl ew ep af true eb e = by_effect w pl ew ep (subst T (sym eb) tt) af (argument_stable P c s.rule pl s.argument) refl (effect P c.next s.rule pl) refl e

      by_place : (w : Row) → rule_row s.rule ≡ some w → (b : Bool) → argument_fits c s.rule s.argument ≡ b → (o : Option Place) → place c s.place ≡ o → after_place limit P c s.rule s.argument w b o ≡ ok d → Accepts limit P c s d
      by_place w ew b eb none eo e = absurd (refused_ok 11 d e)
      by_place w ew false eb (some pl) eo e = absurd (refused_ok 11 d e)
      by_place w ew true eb (some pl) eo e = by_kind w pl ew eo (subst T (sym eb) tt) (fits_row w pl) refl e

      by_row : (o : Option Row) → rule_row s.rule ≡ o → after_rule limit P c s.rule s.place s.argument o ≡ ok d → Accepts limit P c s d
      by_row none eo e = absurd (refused_ok 10 d e)
      by_row (some w) eo e = by_place w eo (argument_fits c s.rule s.argument) refl (place c s.place) refl e

  from_accept : Accepts limit P c s d → step limit P c s ≡ ok d
  unfolding step
  from_accept h = subst (λ o. after_rule limit P c s.rule s.place s.argument o ≡ ok d) (sym (transition_row h.transition).is_row) (by_place (transition_row h.transition).row (transition_row h.transition).fits)
    where
      pl : Place
      pl = h.at_place

      args : T (argument_fits c s.rule s.argument) × T (argument_stable P c s.rule pl s.argument)
      args = (argument_iff P c s.rule s.argument pl (place_whole c s.place pl h.is_place)).1 (h.no_argument, h.argument)

      leads_to : effect P c.next s.rule pl ≡ some d
      leads_to = effect_complete P c.next h.transition ∙ ap (λ g. some (record { root = g; next = d.next })) (sym h.result)

      by_effect : (b : Bool) → T b → (o : Change) → o ≡ some d → after_condition limit b o ≡ ok d
      by_effect false t o e = elim t [ ]
      by_effect true t o e = subst (λ x. after_condition limit true x ≡ ok d) (sym e) ((limits_iff limit d d).1 (refl, h.numbers_left, h.fit))

      by_kind : (b : Bool) → T b → elim b as (λ x. Result Config) [ false ↦ refused 12 | true ↦ after_condition limit (argument_stable P c s.rule pl s.argument) (effect P c.next s.rule pl) ] ≡ ok d
      by_kind false t = elim t [ ]
      by_kind true t = by_effect (argument_stable P c s.rule pl s.argument) args.1 (effect P c.next s.rule pl) leads_to

      with_argument : (w : Row) → T (fits_row w pl) → (b : Bool) → T b → after_place limit P c s.rule s.argument w b (some pl) ≡ ok d
      with_argument w k false t = elim t [ ]
      with_argument w k true t = by_kind (fits_row w pl) k

      by_place : (w : Row) → T (fits_row w pl) → after_place limit P c s.rule s.argument w (argument_fits c s.rule s.argument) (place c s.place) ≡ ok d
      by_place w k = subst (λ o. after_place limit P c s.rule s.argument w (argument_fits c s.rule s.argument) o ≡ ok d) (sym h.is_place) (with_argument w k (argument_fits c s.rule s.argument) args.0)

  -- Demand 2: a step is accepted exactly when the rules allow it and the limits hold; its result is the rule's.
  pub accepts_iff : (step limit P c s ≡ ok d) ↔ Accepts limit P c s d
  accepts_iff = (to_accept, from_accept)

-- The result is the only one.
pub accepts_unique : (limit : ℕ) (P : Program) (c : Config) (s : Step) (d e : Config) → Accepts limit P c s d → Accepts limit P c s e → d ≡ e
accepts_unique limit P c s d e a b = ok_inj d e (sym ((accepts_iff limit P c s d).1 a) ∙ (accepts_iff limit P c s e).1 b)
