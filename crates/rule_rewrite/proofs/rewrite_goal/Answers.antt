-- By the rule's number. Assumes nothing.
use native.Mathlib.Omega.{arith}
use Rattle.mem_words.specs.Words.{words}
use Rattle.rule_rewrite.proofs.Chosen.{at_11, at_12, at_13, at_14}
use Rattle.rule_rewrite.proofs.rewrite_goal.Goals as goal

pub fail_guard-requires : goal.fail_guard-requires
fail_guard-requires c = c.requires.0

pub returns-then-r-eq11 : goal.returns-then-r-eq11
returns-then-r-eq11 c = λ D next. at_11 (words c.args.ws.now) D c.args.i next c.args.r (omega arith) c.fail_guard.ensures

pub split-requires : goal.split-requires
split-requires c = c.requires.0

pub returns-then-r-eq12 : goal.returns-then-r-eq12
returns-then-r-eq12 c = λ D next. at_12 (words c.args.ws.now) D c.args.i next c.args.r (omega arith) c.split.ensures

pub distribute-requires : goal.distribute-requires
distribute-requires c = c.requires.0

pub returns-then-r-eq13 : goal.returns-then-r-eq13
returns-then-r-eq13 c = λ D next. at_13 (words c.args.ws.now) D c.args.i next c.args.r (omega arith) c.distribute.ensures

pub flatten-requires : goal.flatten-requires
flatten-requires c = c.requires.0

pub returns : goal.returns
returns c = λ D next. at_14 (words c.args.ws.now) D c.args.i next c.args.r (omega (arith, c.requires.2)) c.flatten.ensures
