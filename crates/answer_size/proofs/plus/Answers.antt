-- Three ways. Assumes nothing.
use native.Mathlib.Omega.{arith}
use Rattle.answer_size.proofs.Sizing.{sum_over, sum_within}
use Rattle.answer_size.proofs.plus.Goals as goal

pub returns-then-m-a : goal.returns-then-m-a
returns-then-m-a c = sum_over c.args.m c.args.a c.args.n (omega arith)

pub returns-then-m-a-2 : goal.returns-then-m-a-2
returns-then-m-a-2 c = sum_over c.args.m c.args.a c.args.n (omega arith)

pub returns : goal.returns
returns c = sum_within c.args.m c.args.a c.args.n (omega arith)
