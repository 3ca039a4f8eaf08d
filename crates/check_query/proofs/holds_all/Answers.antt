-- Those below x are there. Assumes nothing.
use mathlib.Core.Path.{sym, ◌∙◌}
use native.Mathlib.Omega.{arith}
use lib.ListN.{drop}
use Rattle.constraint.specs.Solve.{elem}
use Rattle.mem_words.specs.Words.{words}
use Rattle.check_words.specs.Frees.{frees}
use Rattle.check_query.specs.Steps.{try_first, try_on, try_failed, try_last}
use Rattle.check_query.proofs.holds_all.Goals as goal

pub loop-x-init : goal.loop-x-init
loop-x-init c = (omega arith, try_first (λ y. elem y (frees (drop c.args.i (words c.args.ws.now)))) c.args.q)

pub returns-then-not-holds : goal.returns-then-not-holds
returns-then-not-holds c = try_failed (λ y. elem y (frees (drop c.args.i (words c.args.ws.now)))) c.args.q c.loop-x.x (omega arith) c.loop-x.invariant.1 (sym c.holds.ensures ∙ c.if-not-holds.true)

pub loop-x-preserved : goal.loop-x-preserved
loop-x-preserved c = (omega arith, try_on (λ y. elem y (frees (drop c.args.i (words c.args.ws.now)))) c.args.q c.loop-x.x (omega arith) c.loop-x.invariant.1 (sym c.holds.ensures ∙ c.if-not-holds.false))

pub returns : goal.returns
returns c = try_last (λ y. elem y (frees (drop c.args.i (words c.args.ws.now)))) c.args.q c.loop-x.x (omega arith) c.loop-x.invariant.1
