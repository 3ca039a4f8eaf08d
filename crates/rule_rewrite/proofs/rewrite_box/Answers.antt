-- By the rule's number. Assumes nothing.
use native.Mathlib.Omega.{arith}
use Rattle.mem_words.specs.Words.{words}
use Rattle.rule_rewrite.proofs.Chosen.{at_6, at_7, at_8, at_9, at_10}
use Rattle.rule_rewrite.proofs.rewrite_box.Goals as goal

pub promote-requires : goal.promote-requires
promote-requires c = c.requires.0

pub returns-then-r-eq6 : goal.returns-then-r-eq6
returns-then-r-eq6 c = λ D next. at_6 (words c.args.ws.now) D c.args.i next c.args.r (omega arith) c.promote.ensures

pub condition-requires : goal.condition-requires
condition-requires c = c.requires.0

pub returns-then-r-eq7 : goal.returns-then-r-eq7
returns-then-r-eq7 c = λ D next. at_7 (words c.args.ws.now) D c.args.i next c.args.r (omega arith) c.condition.ensures

pub commit-requires : goal.commit-requires
commit-requires c = c.requires.0

pub returns-then-r-eq8 : goal.returns-then-r-eq8
returns-then-r-eq8 c = λ D next. at_8 (words c.args.ws.now) D c.args.i next c.args.r (omega arith) c.commit.ensures

pub fail_box-requires : goal.fail_box-requires
fail_box-requires c = c.requires.0

pub returns-then-r-eq9 : goal.returns-then-r-eq9
returns-then-r-eq9 c = λ D next. at_9 (words c.args.ws.now) D c.args.i next c.args.r (omega arith) c.fail_box.ensures

pub fail_goal-requires : goal.fail_goal-requires
fail_goal-requires c = c.requires.0

pub returns : goal.returns
returns c = λ D next. at_10 (words c.args.ws.now) D c.args.i next c.args.r (omega (arith, c.requires.2)) c.fail_goal.ensures
