-- `mem_get::make` meets its contract: class by class. Assumes nothing.
use mathlib.Core.Path.{refl}
use native.Mathlib.Omega.{arith}
use Rattle.mem_words.specs.Words.{word_at, word_past}
use Rattle.mem_get.proofs.make.Goals as goal

pub returns-in-0 : goal.returns-in-0
returns-in-0 c = word_at c.args.k 0 c.args.v _ c.in-0.is c.closing.ensures

pub returns-in-1 : goal.returns-in-1
returns-in-1 c = word_at c.args.k 1 c.args.v _ c.in-1.is refl

pub returns-in-2 : goal.returns-in-2
returns-in-2 c = word_at c.args.k 2 c.args.v _ c.in-2.is refl

pub returns-in-3 : goal.returns-in-3
returns-in-3 c = word_at c.args.k 3 c.args.v _ c.in-3.is refl

pub returns-in-4 : goal.returns-in-4
returns-in-4 c = word_at c.args.k 4 c.args.v _ c.in-4.is c.placing.ensures

pub returns-in-5 : goal.returns-in-5
returns-in-5 c = word_at c.args.k 5 c.args.v _ c.in-5.is c.opening.ensures

pub returns-in_default : goal.returns-in_default
returns-in_default c = word_past c.args.k c.args.v (omega arith)
