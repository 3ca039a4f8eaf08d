-- By the rule's number. Assumes nothing.
use native.Mathlib.Omega.{arith}
use Rattle.mem_words.specs.Words.{words}
use Rattle.rule_rewrite.proofs.rewrite.Goals as goal

pub rewrite_statement-requires : goal.rewrite_statement-requires
rewrite_statement-requires c = (c.requires.0, c.requires.1, c.requires.2, omega arith)

pub returns-then-r-lt6 : goal.returns-then-r-lt6
returns-then-r-lt6 c = c.rewrite_statement.ensures

pub rewrite_box-requires : goal.rewrite_box-requires
rewrite_box-requires c = (c.requires.0, omega arith, omega arith)

pub returns-then-r-lt11 : goal.returns-then-r-lt11
returns-then-r-lt11 c = c.rewrite_box.ensures (words c.args.ps.now) c.args.next

pub rewrite_goal-requires : goal.rewrite_goal-requires
rewrite_goal-requires c = (c.requires.0, omega arith, c.requires.3)

pub returns : goal.returns
returns c = c.rewrite_goal.ensures (words c.args.ps.now) c.args.next
