-- First the name, then the number of parameters. Assumes nothing.
use native.Mathlib.Omega.{arith}
use Rattle.mem_words.specs.Words.{words}
use Rattle.rule_bodies.specs.Search.{head_is, name_is_not, arity_is_not}
use Rattle.rule_bodies.proofs.is_head.Goals as goal

pub overflow_add-j : goal.overflow_add-j
overflow_add-j c = omega (arith, c.count-c.ensures.small, c.count-c.ensures.is, c.requires)

pub returns-then-y-n : goal.returns-then-y-n
returns-then-y-n c = head_is (words c.args.ps.now) c.args.j c.args.p c.args.n _ _ c.number_at-x.ensures.0 c.number_at-y.ensures.0 c.if-x-p.true c.if-y-n.true

pub returns-then-x-p : goal.returns-then-x-p
returns-then-x-p c = arity_is_not (words c.args.ps.now) c.args.j c.args.p c.args.n _ _ c.number_at-x.ensures.0 c.number_at-y.ensures.0 c.if-x-p.true c.if-y-n.false

pub returns : goal.returns
returns c = name_is_not (words c.args.ps.now) c.args.j c.args.p c.args.n _ c.number_at-x.ensures.0 c.if-x-p.false
