-- Solved, the only one, one of several. Assumes nothing.
use mathlib.Core.Path.{sym, ◌∙◌}
use native.Mathlib.Omega.{arith}
use Rattle.mem_words.specs.Words.{words}
use Rattle.step_waits.proofs.Waiting.{not_solved, waits_sole, waits_beside}
use Rattle.step_waits.proofs.waits.Goals as goal

pub solved-requires : goal.solved-requires
solved-requires c = omega (arith, c.requires.low)

pub sole-requires : goal.sole-requires
sole-requires c = (c.requires.order, c.requires.low, sym c.solved.ensures ∙ c.if-solved.true)

pub returns-then-sole : goal.returns-then-sole
returns-then-sole c = waits_sole (words c.args.t.now) c.args.g c.args.j c.sole.result c.sole.ensures c.if-sole.true

pub beside-requires : goal.beside-requires
beside-requires c = (c.requires, sym c.solved.ensures ∙ c.if-solved.true)

pub returns-then-solved : goal.returns-then-solved
returns-then-solved c = waits_beside (words c.args.t.now) c.args.g c.args.j c.sole.result c.beside.result c.sole.ensures c.if-sole.false c.beside.ensures

pub returns : goal.returns
returns c = not_solved (words c.args.t.now) c.args.g c.args.j c.solved.result c.solved.ensures c.if-solved.false
