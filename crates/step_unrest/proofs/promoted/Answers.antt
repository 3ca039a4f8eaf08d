-- What is near first. Assumes nothing.
use native.Mathlib.Omega.{arith}
use Rattle.mem_words.specs.Words.{words}
use Rattle.step_unrest.proofs.Tabled.{six_waits, six_unsolved, six_asks}
use Rattle.step_unrest.proofs.promoted.Goals as goal

pub overflow_add-j : goal.overflow_add-j
overflow_add-j c = omega (arith, c.count-c.ensures.small, c.count-c.ensures.is, c.requires)

pub solved-requires : goal.solved-requires
solved-requires c = omega (arith, c.requires)

pub has_one-requires : goal.has_one-requires
has_one-requires c = omega (arith, c.requires)

pub returns-then-solved : goal.returns-then-solved
returns-then-solved c = six_waits (words c.args.t.now) c.args.j c.is_kind.result c.solved.result c.has_one.result c.is_kind.ensures c.if-is_kind.true c.solved.ensures c.if-solved.true c.has_one.ensures

pub returns-then-is_kind : goal.returns-then-is_kind
returns-then-is_kind c = six_unsolved (words c.args.t.now) c.args.j c.solved.result c.solved.ensures c.if-solved.false

pub returns : goal.returns
returns c = six_asks (words c.args.t.now) c.args.j c.is_kind.result c.is_kind.ensures c.if-is_kind.false
