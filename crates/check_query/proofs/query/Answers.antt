-- The answer is that of the words that are left. Assumes nothing.
use native.Mathlib.Omega.{arith}
use Rattle.mem_words.specs.Words.{words}
use Rattle.check_query.specs.Steps.{begins, goes, refuses, ends, deep_at_most}
use Rattle.check_query.proofs.query.Goals as goal

pub loop-i-init : goal.loop-i-init
loop-i-init c = (omega arith, omega arith, begins c.args.q (words c.args.ws.now))

pub returns-then-not-passes : goal.returns-then-not-passes
returns-then-not-passes c = refuses c.passes.result (omega (arith, c.count-n.ensures.is)) c.loop-i.invariant.2 c.get-w.ensures c.passes.ensures (c.if-not-passes.true)

pub loop-i-preserved : goal.loop-i-preserved
loop-i-preserved c = (omega arith, omega (arith, c.loop-i.invariant.1, c.depth-d.ensures, deep_at_most c.loop-i.d c.get-w.result), goes c.passes.result (omega (arith, c.count-n.ensures.is)) c.loop-i.invariant.2 c.get-w.ensures c.passes.ensures (c.if-not-passes.false) c.passing-l.result c.depth-d.result c.passing-l.ensures c.depth-d.ensures)

pub returns : goal.returns
returns c = ends (omega (arith, c.count-n.ensures.is)) c.loop-i.invariant.2
