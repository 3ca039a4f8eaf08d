-- `mem_get::placing` meets its contract: number by number. Assumes nothing.
use mathlib.Core.Path.{refl}
use Rattle.mem_words.specs.Words.{place_word, number_at, place_rest}
use Rattle.mem_get.proofs.placing.Goals as goal

pub returns-in-0 : goal.returns-in-0
returns-in-0 c = number_at place_word c.args.v 0 _ c.in-0.is refl

pub returns-in-1 : goal.returns-in-1
returns-in-1 c = number_at place_word c.args.v 1 _ c.in-1.is refl

pub returns-in-2 : goal.returns-in-2
returns-in-2 c = number_at place_word c.args.v 2 _ c.in-2.is refl

pub returns-in-3 : goal.returns-in-3
returns-in-3 c = number_at place_word c.args.v 3 _ c.in-3.is refl

pub returns-in-4 : goal.returns-in-4
returns-in-4 c = number_at place_word c.args.v 4 _ c.in-4.is refl

pub returns-in-5 : goal.returns-in-5
returns-in-5 c = number_at place_word c.args.v 5 _ c.in-5.is refl

pub returns-in-6 : goal.returns-in-6
returns-in-6 c = number_at place_word c.args.v 6 _ c.in-6.is refl

pub returns-in_default : goal.returns-in_default
returns-in_default c = place_rest c.args.v c.in_default.in_default-own.rest.0.0.0.0.0.0.1 c.in_default.in_default-own.rest.0.0.0.0.0.1 c.in_default.in_default-own.rest.0.0.0.0.1 c.in_default.in_default-own.rest.0.0.0.1 c.in_default.in_default-own.rest.0.0.1 c.in_default.in_default-own.rest.0.1 c.in_default.in_default-own.rest.1
