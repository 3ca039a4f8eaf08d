-- Document 01, "What a call returns": the number of each refusal, with the words of its row.
use Rattle.std.specs.Prelude.{ℕ, ◌≤◌, ◌<◌, Result, Ok, Err}
use Rattle.refusals.specs.declared.Refusal.{Refusal}
use Rattle.refusals.specs.declared.Refusal.TheVariants.{TooLong, NotOfGrammar, TooMany, Twice, NotDefined, NotBound, TwoOperators, TooShort, NotWellFormed, NoRule, NoPlace, OtherKind, ConditionFalse, NoFreshNumber, TooManyParts, NoAnswer, AnswerTooLong, NotALine}

abbrev pub number_of : Refusal → ℕ
-- "program or steps over 16,384 bytes, query over 4,096"
number_of TooLong = 1
-- "text not of the grammar, name length included, counts and depth aside"
number_of NotOfGrammar = 2
-- "over 128 definitions, 8 parameters or arguments, 16 query variables, depth 32"
number_of TooMany = 3
-- "one name and arity defined twice, a variable twice in a parameter or hidden list"
number_of Twice = 4
-- "program atom without definition"
number_of NotDefined = 5
-- "in a program, variable neither parameter nor hidden"
number_of NotBound = 6
-- "one choice, two operators"
number_of TwoOperators = 7
-- "store or working slice shorter than the documented length"
number_of TooShort = 8
-- "store holds no well-formed program and configuration"
number_of NotWellFormed = 9
-- "rule not 1 to 14"
number_of NoRule = 10
-- "no such place; argument not 0, or in rule 12 no place"
number_of NoPlace = 11
-- "goal there of another kind than the rule takes"
number_of OtherKind = 12
-- "the rule's condition is false"
number_of ConditionFalse = 13
-- "fresh numbers would pass 65,534"
number_of NoFreshNumber = 14
-- "new or starting configuration over 2,048 parts"
number_of TooManyParts = 15
-- "no answer of that number, counted from 1"
number_of NoAnswer = 16
-- "answer text longer than the lent slice"
number_of AnswerTooLong = 17
-- "steps line not as described"
number_of NotALine = 18

-- a refusal that a text of the grammar may be given
pub record Textual (f : ℕ) : Type 0 where
  pub low : 3 ≤ f
  pub high : f < 8

-- the number that a result stands for: what a function makes of its value, or the refusal's
abbrev pub answered : {A : Type 0} → (A → ℕ) → Result A Refusal → ℕ
answered f (Ok x) = f x
answered f (Err r) = number_of r

-- 0, or the refusal's number
abbrev pub refused_with : {A : Type 0} → Result A Refusal → ℕ
refused_with r = answered (λ x. 0) r

-- the value itself, or the refusal's number
abbrev pub number_told : Result ℕ Refusal → ℕ
number_told r = answered (λ n. n) r
