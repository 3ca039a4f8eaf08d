-- The name and the number of arguments of the atom. Assumes nothing.
use native.Mathlib.Omega.{arith}
use Rattle.mem_words.specs.Words.{words}
use Rattle.rule_bodies.specs.Search.{body_of_is}
use Rattle.rule_bodies.proofs.body_at.Goals as goal

pub overflow_add-i : goal.overflow_add-i
overflow_add-i c = omega (arith, c.count-c.ensures.small, c.count-c.ensures.is, c.requires)

pub overflow_add-i-2 : goal.overflow_add-i-2
overflow_add-i-2 c = omega (arith, c.count-c.ensures.small, c.count-c.ensures.is, c.requires)

pub overflow_add-i-3 : goal.overflow_add-i-3
overflow_add-i-3 c = omega (arith, c.count-c.ensures.small, c.count-c.ensures.is, c.requires)

pub returns : goal.returns
returns c = (body_of_is (words c.args.ws.now) (words c.args.ps.now) c.args.i _ _ _ _ c.number_at-p.ensures.0 c.end_of-v.ensures.0 c.less-n.ensures c.search.ensures.0, c.search.ensures.1)
