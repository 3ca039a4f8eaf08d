-- A refusal has a number from 1 on. Assumes nothing.
use mathlib.Core.Path.{◌≡◌, refl}
use Prim.Native.Nat.{ℕ, suc, ◌<◌}
use native.Mathlib.Omega.{arith}
use Rattle.refusals.specs.declared.Refusal.{Refusal}
use Rattle.refusals.specs.declared.Refusal.TheVariants.{TooLong, NotOfGrammar, TooMany, Twice, NotDefined, NotBound, TwoOperators, TooShort, NotWellFormed, NoRule, NoPlace, OtherKind, ConditionFalse, NoFreshNumber, TooManyParts, NoAnswer, AnswerTooLong, NotALine}
use Rattle.refusals.specs.Refusals.{number_of}

pub numbered : (r : Refusal) → (m : ℕ) × (number_of r ≡ suc m)
numbered TooLong = (0, refl)
numbered NotOfGrammar = (1, refl)
numbered TooMany = (2, refl)
numbered Twice = (3, refl)
numbered NotDefined = (4, refl)
numbered NotBound = (5, refl)
numbered TwoOperators = (6, refl)
numbered TooShort = (7, refl)
numbered NotWellFormed = (8, refl)
numbered NoRule = (9, refl)
numbered NoPlace = (10, refl)
numbered OtherKind = (11, refl)
numbered ConditionFalse = (12, refl)
numbered NoFreshNumber = (13, refl)
numbered TooManyParts = (14, refl)
numbered NoAnswer = (15, refl)
numbered AnswerTooLong = (16, refl)
numbered NotALine = (17, refl)

pub over_0 : (r : Refusal) → 0 < number_of r
over_0 r = omega (arith, (numbered r).1)
