-- When a step is accepted, said by the rules' relation: the place has the number, a transition of that rule stands there,
-- the argument is as it must be, and the limits hold. Stable and inside are said of transitions, trees and contexts.
use Rattle.std.specs.Prelude.{◌≡◌, ℕ, suc, ◌≤◌}
use Rattle.std.proofs.Math.Option.{some}
use Rattle.akl.specs.Limits.{last_number}
use Rattle.akl.specs.Syntax.{Program}
use Rattle.akl.specs.StepsText.{Step}
use Rattle.akl.specs.Configuration.{Kind, Node, Ctx, plug, env, Config}
use Rattle.akl.specs.Places.{Place, at, place}
use Rattle.akl.specs.Parts.{parts}
use Rattle.akl.specs.Step.{splitting}
use Rattle.theory.specs.Transition.{Transition}
use Rattle.accept.specs.Inner.{AtOrIn, HoldsBox, QuietInside}

-- "no determinate step rewrites it or anything inside it": no transition of a rule but 12, at a place of the
-- configuration, has the goal that it rewrites there.
abbrev pub Undisturbed : Program → Config → {k : Kind} → Ctx k → Type 0
Undisturbed P c χ = (p r : ℕ) (pl : Place) (j : Kind) (χ' : Ctx j) (m m' : Node j) (N' : ℕ) → place c p ≡ some pl → ¬ (r ≡ splitting) → Transition P c.next r pl j χ' m m' N' → ¬ AtOrIn χ j χ'

-- "A goal is stable when no determinate step rewrites it or anything inside it, and for each and-box at or inside it, the
-- stores from the goal down to that box are together quiet, with all locals inside the goal as V, for the goal's environment."
abbrev pub Stable : Program → Config → Place → Type 0
Stable P c (at χ n) = Undisturbed P c χ × QuietInside (env χ) n

-- "the place of a stable goal that is or contains the and-box"
abbrev pub Contains : Place → Place → Type 0
Contains (at χ n) pl = HoldsBox χ pl

pub record StableAround (P : Program) (c : Config) (pl : Place) (a : ℕ) : Type 0 where
  pub around : Place
  pub is_place : place c a ≡ some around
  pub contains : Contains around pl
  pub stable : Stable P c around

pub record Accepts (limit : ℕ) (P : Program) (c : Config) (s : Step) (d : Config) : Type 0 where
  pub at_place : Place
  pub is_place : place c s.place ≡ some at_place
  pub kind : Kind
  pub context : Ctx kind
  pub before : Node kind
  pub after : Node kind
  pub transition : Transition P c.next s.rule at_place kind context before after d.next
  pub result : d.root ≡ plug context after
  pub no_argument : ¬ (s.rule ≡ splitting) → s.argument ≡ 0
  pub argument : s.rule ≡ splitting → StableAround P c at_place s.argument
  pub numbers_left : d.next ≤ suc last_number
  pub fit : parts d.root ≤ limit
