-- A step's refusals are 10 to 15, so that they stand beside a count in one number. Assumes nothing.
use mathlib.Core.Path.{◌≡◌, subst}
use mathlib.Core.Bool.{Bool, true, false}
use mathlib.Core.Option.{Option, some, none}
use Prim.Native.Nat.{ℕ, suc, ◌≤◌}
use native.Mathlib.Omega.{arith}
use lib.Dec.{ltb}
use Rattle.akl.specs.Base.{Result, refused, ok, if}
use Rattle.akl.specs.Limits.{last_number}
use Rattle.akl.specs.Syntax.{Program}
use Rattle.akl.specs.StepsText.{Step}
use Rattle.akl.specs.Configuration.{Config}
use Rattle.akl.specs.Places.{Place, place}
use Rattle.akl.specs.Parts.{parts}
use Rattle.akl.specs.Table.{Row, rule_row}
use Rattle.akl.specs.Rules.{effect}
use Rattle.akl.specs.Stability.{fits_row}
use Rattle.akl.specs.Step.{argument_fits, argument_stable, within_limits, after_condition, after_place, after_rule, step}
use Rattle.store_form.specs.State.{State, program_of, config_of}
use Rattle.store_steps.specs.After.{with_result, state_after}

abbrev Small : {A : Type 0} → Result A → Type 0
Small (refused n) = n ≤ 15
Small (ok a) = Unit {0}

module _ (limit : ℕ) where
  small_limits : (c : Config) → Small (within_limits limit c)
  unfolding within_limits
  small_limits c = go (ltb (suc last_number) c.next) (ltb limit (parts c.root))
    where
      go : (x y : Bool) → Small (if x (refused 14) (if y (refused 15) (ok c)))
      go true y = omega arith
      go false true = omega arith
      go false false = tt

  small_condition : (b : Bool) (o : Option Config) → Small (after_condition limit b o)
  small_condition b none = omega arith
  small_condition false (some c) = omega arith
  small_condition true (some c) = small_limits c

  small_place : (P : Program) (c : Config) (r a : ℕ) (w : Row) (b : Bool) (o : Option Place) → Small (after_place limit P c r a w b o)
  small_place P c r a w b none = omega arith
  small_place P c r a w false (some p) = omega arith
  small_place P c r a w true (some p) = go (fits_row w p)
    where
      go : (x : Bool) → Small {A = Config} (elim x as (λ v. Result Config) [ false ↦ refused 12 | true ↦ after_condition limit (argument_stable P c r p a) (effect P c.next r p) ])
      go false = omega arith
      go true = small_condition (argument_stable P c r p a) (effect P c.next r p)

  small_rule : (P : Program) (c : Config) (r p a : ℕ) (o : Option Row) → Small (after_rule limit P c r p a o)
  small_rule P c r p a none = omega arith
  small_rule P c r p a (some w) = small_place P c r a w (argument_fits c r a) (place c p)

  small_step : (P : Program) (c : Config) (k : Step) → Small (step limit P c k)
  unfolding step
  small_step P c k = small_rule P c k.rule k.place k.argument (rule_row k.rule)

  small_after : (s : State) (k : Step) → Small (state_after limit s k)
  unfolding state_after
  small_after s k = go (step limit (program_of s) (config_of s) k) (small_step (program_of s) (config_of s) k)
    where
      go : (r : Result Config) → Small r → Small (with_result s r)
      go (refused n) h = h
      go (ok d) h = tt

  pub refusal_small : (s : State) (k : Step) (n : ℕ) → state_after limit s k ≡ refused n → n ≤ 15
  refusal_small s k n e = subst (λ (r : Result State). Small r) e (small_after s k)
