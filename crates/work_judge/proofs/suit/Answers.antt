-- The checks, one after another. Assumes nothing.
use native.Mathlib.Omega.{arith}
use Rattle.mem_words.specs.Words.{words}
use Rattle.work_judge.proofs.Locals.{suit_all}
use Rattle.work_judge.proofs.suit.Goals as goal

pub returns-then-mid-from : goal.returns-then-mid-from
returns-then-mid-from c = λ s. omega (arith, s.first)

pub returns-then-to-mid : goal.returns-then-to-mid
returns-then-to-mid c = λ s. omega (arith, s.second)

pub returns-then-n-to : goal.returns-then-n-to
returns-then-n-to c = λ s. omega (arith, s.end, c.count-n.ensures.is)

pub returns-then-w-lt524288 : goal.returns-then-w-lt524288
returns-then-w-lt524288 c = λ s. omega (arith, s.laid.long)

pub overflow_sub-to : goal.overflow_sub-to
overflow_sub-to c = omega arith

pub returns-then-to-from-gt24570 : goal.returns-then-to-from-gt24570
returns-then-to-from-gt24570 c = λ s. omega (arith, s.first, s.second, s.room)

pub returns : goal.returns
returns c = suit_all (words c.args.t.now) c.args.from c.args.mid c.args.to c.args.w.now (omega arith) (omega arith) (omega (arith, c.count-n.ensures.is)) (omega arith) (omega arith) c.vars_below.result c.vars_below.ensures
