-- A step's refusals are 10 to 15: 0 is none of them, and they stand beside a count in one number. Assumes nothing.
use mathlib.Core.Bool.{Bool, true, false}
use mathlib.Core.Option.{Option, some, none}
use Prim.Native.Nat.{ℕ, suc, ◌≤◌}
use native.Mathlib.Omega.{arith}
use lib.Dec.{ltb}
use Rattle.akl.specs.Base.{Result, refused, ok, if}
use Rattle.akl.specs.Limits.{last_number}
use Rattle.akl.specs.Syntax.{Program}
use Rattle.akl.specs.StepsText.{Step}
use Rattle.akl.specs.Configuration.{Config}
use Rattle.akl.specs.Places.{Place, place}
use Rattle.akl.specs.Parts.{parts}
use Rattle.akl.specs.Table.{Row, rule_row}
use Rattle.akl.specs.Rules.{effect}
use Rattle.akl.specs.Stability.{fits_row}
use Rattle.akl.specs.Step.{argument_fits, argument_stable, within_limits, after_condition, after_place, after_rule, step}

abbrev pub Within : {A : Type 0} → Result A → Type 0
Within (refused n) = (10 ≤ n) × (n ≤ 15)
Within (ok a) = Unit {0}

module _ (limit : ℕ) where
  of_limits : (c : Config) → Within (within_limits limit c)
  unfolding within_limits
  of_limits c = go (ltb (suc last_number) c.next) (ltb limit (parts c.root))
    where
      go : (x y : Bool) → Within (if x (refused 14) (if y (refused 15) (ok c)))
      go true y = (omega arith, omega arith)
      go false true = (omega arith, omega arith)
      go false false = tt

  of_condition : (b : Bool) (o : Option Config) → Within (after_condition limit b o)
  of_condition b none = (omega arith, omega arith)
  of_condition false (some c) = (omega arith, omega arith)
  of_condition true (some c) = of_limits c

  of_place : (P : Program) (c : Config) (r a : ℕ) (w : Row) (b : Bool) (o : Option Place) → Within (after_place limit P c r a w b o)
  of_place P c r a w b none = (omega arith, omega arith)
  of_place P c r a w false (some p) = (omega arith, omega arith)
  of_place P c r a w true (some p) = go (fits_row w p)
    where
      go : (x : Bool) → Within {A = Config} (elim x as (λ v. Result Config) [ false ↦ refused 12 | true ↦ after_condition limit (argument_stable P c r p a) (effect P c.next r p) ])
      go false = (omega arith, omega arith)
      go true = of_condition (argument_stable P c r p a) (effect P c.next r p)

  of_rule : (P : Program) (c : Config) (r p a : ℕ) (o : Option Row) → Within (after_rule limit P c r p a o)
  of_rule P c r p a none = (omega arith, omega arith)
  of_rule P c r p a (some w) = of_place P c r a w (argument_fits c r a) (place c p)

  pub of_step : (P : Program) (c : Config) (k : Step) → Within (step limit P c k)
  unfolding step
  of_step P c k = of_rule P c k.rule k.place k.argument (rule_row k.rule)
