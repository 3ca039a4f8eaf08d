-- `mem_get::opening` meets its contract: number by number. Assumes nothing.
use mathlib.Core.Path.{refl}
use Rattle.mem_words.specs.Words.{inner_word, number_at, inner_rest}
use Rattle.mem_get.proofs.opening.Goals as goal

pub returns-in-0 : goal.returns-in-0
returns-in-0 c = number_at inner_word c.args.v 0 _ c.in-0.is refl

pub returns-in-1 : goal.returns-in-1
returns-in-1 c = number_at inner_word c.args.v 1 _ c.in-1.is refl

pub returns-in-2 : goal.returns-in-2
returns-in-2 c = number_at inner_word c.args.v 2 _ c.in-2.is refl

pub returns-in-3 : goal.returns-in-3
returns-in-3 c = number_at inner_word c.args.v 3 _ c.in-3.is refl

pub returns-in-4 : goal.returns-in-4
returns-in-4 c = number_at inner_word c.args.v 4 _ c.in-4.is refl

pub returns-in-5 : goal.returns-in-5
returns-in-5 c = number_at inner_word c.args.v 5 _ c.in-5.is refl

pub returns-in-6 : goal.returns-in-6
returns-in-6 c = number_at inner_word c.args.v 6 _ c.in-6.is refl

pub returns-in-7 : goal.returns-in-7
returns-in-7 c = number_at inner_word c.args.v 7 _ c.in-7.is refl

pub returns-in-8 : goal.returns-in-8
returns-in-8 c = number_at inner_word c.args.v 8 _ c.in-8.is refl

pub returns-in-9 : goal.returns-in-9
returns-in-9 c = number_at inner_word c.args.v 9 _ c.in-9.is refl

pub returns-in-10 : goal.returns-in-10
returns-in-10 c = number_at inner_word c.args.v 10 _ c.in-10.is refl

pub returns-in-11 : goal.returns-in-11
returns-in-11 c = number_at inner_word c.args.v 11 _ c.in-11.is refl

pub returns-in-12 : goal.returns-in-12
returns-in-12 c = number_at inner_word c.args.v 12 _ c.in-12.is refl

pub returns-in_default : goal.returns-in_default
returns-in_default c = inner_rest c.args.v c.in_default.in_default-own.rest.0.0.0.0.0.0.0.0.0.0.0.0.1 c.in_default.in_default-own.rest.0.0.0.0.0.0.0.0.0.0.0.1 c.in_default.in_default-own.rest.0.0.0.0.0.0.0.0.0.0.1 c.in_default.in_default-own.rest.0.0.0.0.0.0.0.0.0.1 c.in_default.in_default-own.rest.0.0.0.0.0.0.0.0.1 c.in_default.in_default-own.rest.0.0.0.0.0.0.0.1 c.in_default.in_default-own.rest.0.0.0.0.0.0.1 c.in_default.in_default-own.rest.0.0.0.0.0.1 c.in_default.in_default-own.rest.0.0.0.0.1 c.in_default.in_default-own.rest.0.0.0.1 c.in_default.in_default-own.rest.0.0.1 c.in_default.in_default-own.rest.0.1 c.in_default.in_default-own.rest.1
