-- A goal is stable where there is no unrest at its own place, at its and-boxes, and at the other places inside it by their shape and by their
-- solved guards.
use mathlib.Core.Path.{◌≡◌, refl, ap, sym, ◌∙◌, subst}
use mathlib.Core.Bool.{Bool, true, false}
use mathlib.Core.List.{List}
use Prim.Native.Nat.{ℕ, ◌+◌, ◌<◌, ◌≤◌}
use native.Mathlib.Omega.{arith}
use native.Mathlib.Decide.{ℕ_discrete}
use lib.ListN.{length}
use Rattle.mem_words.specs.declared.Word.{Word}
use Rattle.mem_sorts.specs.declared.Kind.TheVariants.{And}
use Rattle.rule_effects.specs.Effects.{behind}
use Rattle.rule_effects.specs.Conditions.{kind_at}
use Rattle.rule_kinds.specs.Kinds.{takes_in}
use Rattle.step_meant.specs.Asked.{Unrest, IsStable, CanAsk}
use Rattle.step_unrest.specs.Disturbing.{ByShape}
use Rattle.step_unrest.proofs.Boxed.{and_takes, takes_and, place_stirs, place_rests}
use Rattle.step_walk.specs.Calm.{BoxesCalm}
use Rattle.step_guards.specs.Guards.{GuardsRest}
use Rattle.step_calm.proofs.Walkable as walkable
use Rattle.step_calm.proofs.Walkable.{can_walk}
use Rattle.step_calm.proofs.Resting.{boxes_rest, boxes_stir}
use Rattle.step_calm.proofs.Guarding.{guards_rest, guards_stir}
use Rattle.step_stable.specs.Calm.{OwnPlace, RestTo, PlacesRest}
use Rattle.step_stable.proofs.Answers.{calm, loud}

differ : false ≡ true → ⊥
differ z = let y : ◌≡◌ {A = ℕ} 0 1 = ap (λ (x : Bool). elim x [ true ↦ 1 | false ↦ 0 ]) z in omega (arith, y)

-- the goal ends in the words
pub goal_order : {W D : List Word} {g : ℕ} → CanAsk W D g → g < behind W g
goal_order {W} {D} {g} c = walkable.goal_order W D g c

pub goal_ends : {W D : List Word} {g : ℕ} → CanAsk W D g → behind W g ≤ length W
goal_ends {W} {D} {g} c = (can_walk W D g c).whole

-- it is no and-box
pub not_and_box : (W : List Word) (g : ℕ) {b : Bool} → b ≡ kind_at W g And → b ≡ false → takes_in W g ≡ 7 → ⊥
not_and_box W g e z y = differ (sym z ∙ e ∙ takes_and W g y)

module _ {W D : List Word} {g : ℕ} where
  -- its own place
  pub own_and_box : {b : Bool} → b ≡ kind_at W g And → b ≡ true → OwnPlace W D g false
  own_and_box e z = record { stirs = λ y. absurd (differ y); rests = λ y o. absurd (o (and_takes W g (sym e ∙ z))) }

  pub own_asked : {b : Bool} → Unrest W D g g b → OwnPlace W D g b
  own_asked u = record { stirs = λ z. subst (λ (x : Bool). Unrest W D g g x) z u; rests = λ z o. subst (λ (x : Bool). Unrest W D g g x) z u }

  -- unrest at its own place, at an and-box
  pub own_stirs : {b : Bool} → CanAsk W D g → OwnPlace W D g b → b ≡ true → IsStable W D g false
  own_stirs c h z = loud (h.stirs z) refl (omega arith) (goal_order c)

  pub boxes_stir_it : {b : Bool} → BoxesCalm W g b → b ≡ false → IsStable W D g false
  boxes_stir_it h z = let f = boxes_stir h D z in loud f.3 refl f.1 f.2

  -- at another place
  pub places_stir : {b : Bool} → PlacesRest W g b → b ≡ false → IsStable W D g false
  places_stir p z = let f = p.stirs z in let l = f.1 in loud (place_stirs (f.3.stirs refl D) l f.2 refl) refl (omega (arith, l)) f.2

  -- nowhere of these: the solved guards decide
  pub guards_decide : {a b c d : Bool} → CanAsk W D g → OwnPlace W D g a → a ≡ false → PlacesRest W g b → b ≡ true → BoxesCalm W g c → c ≡ true → GuardsRest W g d → IsStable W D g d
  guards_decide {a} {b} {c} {d} ask h z p x k y r = go d r
    where
      at_place : GuardsRest W g true → (i : ℕ) → g ≤ i → i < behind W g → Dec (takes_in W i ≡ 7) → Dec (i ≡ g) → Unrest W D g i false
      at_place r i l u (yes e) d = boxes_rest k D y i l u e
      at_place r i l u (no o) (yes e) = subst (λ (x : ℕ). Unrest W D g x false) (sym e) (h.rests z (λ v. o (ap (takes_in W) e ∙ v)))
      at_place r i l u (no o) (no e) = place_rests (((p.rests x).still i (omega arith) u).rests refl (guards_rest (can_walk W D g ask) r i (omega arith) u) D) (omega arith) u refl o

      go : (v : Bool) → GuardsRest W g v → IsStable W D g v
      go true r = calm {j = behind W g} (record { still = λ i l u. at_place r i l u (ℕ_discrete (takes_in W i) 7) (ℕ_discrete i g) }) (omega arith)
      go false r = let f = guards_stir r D refl in loud f.3 refl f.1 f.2

-- ---------------------------------------------------------------------------------------------
-- The places inside it, one after the other.

module _ {W : List Word} {g : ℕ} where
  pub rest_first : {j : ℕ} → j ≡ g + 1 → RestTo W g j
  rest_first e = record { still = λ i a b. absurd (omega (arith, e)) }

  pub rest_next : {j : ℕ} {b : Bool} → RestTo W g j → ByShape W j b → b ≡ false → RestTo W g (j + 1)
  rest_next {j} c m z = record { still = λ i a b. go i a b (ℕ_discrete i j) }
    where
      go : (i : ℕ) → g < i → i < j + 1 → Dec (i ≡ j) → ByShape W i false
      go i a b (yes e) = subst (λ (x : ℕ). ByShape W x false) (sym e) (subst (λ (x : Bool). ByShape W j x) z m)
      go i a b (no e) = c.still i a (omega arith)

  pub rest_all : {j : ℕ} → RestTo W g j → behind W g ≤ j → PlacesRest W g true
  rest_all c h = record { rests = λ z. record { still = λ i a b. c.still i a (omega arith) }; stirs = λ z. absurd (differ (sym z)) }

  pub rest_not : {j : ℕ} {b : Bool} → ByShape W j b → b ≡ true → g < j → j < behind W g → PlacesRest W g false
  rest_not {j} m z l u = record { rests = λ y. absurd (differ y); stirs = λ y. (j, l, u, subst (λ (x : Bool). ByShape W j x) z m) }
