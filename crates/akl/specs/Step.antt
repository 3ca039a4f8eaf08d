-- The outcome of a step and of a list of steps on a program and a configuration: refusals 10 to 15 in their order.
use Rattle.std.specs.Prelude.{List, [], ◌∷◌, Bool, true, false, ◌&&◌, ℕ, suc, eqb, ltb}
use Rattle.std.proofs.Math.Option.{Option, some, none}
use Rattle.akl.specs.Base.{is_some, if, Result, refused, ok}
use Rattle.akl.specs.Limits.{last_number}
use Rattle.akl.specs.Syntax.{Program}
use Rattle.akl.specs.StepsText.{Step}
use Rattle.akl.specs.Configuration.{Config}
use Rattle.akl.specs.Places.{Place, at, place, holder_number, inside}
use Rattle.akl.specs.Parts.{parts}
use Rattle.akl.specs.Table.{Row, rule_row}
use Rattle.akl.specs.Rules.{effect}
use Rattle.akl.specs.Stability.{stable, fits_row}

-- "The argument is 0 except in rule 12. There it is the place of a stable goal that is or contains the and-box, else 13."
abbrev pub splitting : ℕ
splitting = 12

-- 11: "no such place; argument not 0, or in rule 12 no place"
unfoldable pub argument_fits : Config → ℕ → ℕ → Bool
argument_fits c r a = if (eqb r splitting) (is_some (place c a)) (eqb a 0)

-- the goal at the place holds the and-box of the number
abbrev pub holds_box : Place → ℕ → Bool
holds_box (at χ n) p = inside χ n p

-- the number of the box that holds what is at the place
abbrev pub box_of : Place → ℕ
box_of (at χ n) = holder_number χ

abbrev pub stable_around : Program → Config → Place → Option Place → Bool
stable_around P c p none = false
stable_around P c p (some q) = holds_box q (box_of p) && stable P c q

unfoldable pub argument_stable : Program → Config → ℕ → Place → ℕ → Bool
argument_stable P c r p a = if (eqb r splitting) (stable_around P c p (place c a)) true

-- 14: "fresh numbers would pass 65,534"; 15: "new or starting configuration over 2,048 parts", the limit being an argument
unfoldable pub within_limits : ℕ → Config → Result Config
within_limits limit c =
    if (ltb (suc last_number) c.next) (refused 14)
    (if (ltb limit (parts c.root)) (refused 15) (ok c))

-- 13: "the rule's condition is false"
abbrev pub after_condition : ℕ → Bool → Option Config → Result Config
after_condition limit b none = refused 13
after_condition limit false (some c) = refused 13
after_condition limit true (some c) = within_limits limit c

-- 12: "goal there of another kind than the rule takes"
abbrev pub after_place : ℕ → Program → Config → ℕ → ℕ → Row → Bool → Option Place → Result Config
after_place limit P c r a w b none = refused 11
after_place limit P c r a w false (some p) = refused 11
after_place limit P c r a w true (some p) = elim (fits_row w p) [ false ↦ refused 12 | true ↦ after_condition limit (argument_stable P c r p a) (effect P c.next r p) ]

-- 10: "rule not 1 to 14"
abbrev pub after_rule : ℕ → Program → Config → ℕ → ℕ → ℕ → Option Row → Result Config
after_rule limit P c r p a none = refused 10
after_rule limit P c r p a (some w) = after_place limit P c r a w (argument_fits c r a) (place c p)

unfoldable pub step : ℕ → Program → Config → Step → Result Config
step limit P c s = after_rule limit P c s.rule s.place s.argument (rule_row s.rule)

-- "In a list of steps, the accepted ones before the refused one stand, and their number is returned."
pub record Run : Type 0 where
  pub accepted : ℕ
  pub refusal : ℕ
  pub config : Config

unfoldable pub steps : ℕ → Program → Config → ℕ → List Step → Run
steps limit P c n [] = record { accepted = n; refusal = 0; config = c }
steps limit P c n (s ∷ ss) = elim (step limit P c s) [ refused r ↦ record { accepted = n; refusal = r; config = c } | ok d ↦ steps limit P d (suc n) ss ]
