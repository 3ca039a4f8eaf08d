-- By the rule's number. Assumes nothing.
use native.Mathlib.Omega.{arith}
use Rattle.mem_words.specs.Words.{words}
use Rattle.rule_rewrite.proofs.Chosen.{at_1, at_2, at_3, at_4, at_5, fresh_at_4, fresh_at_5}
use Rattle.rule_rewrite.proofs.rewrite_statement.Goals as goal

pub tell-requires : goal.tell-requires
tell-requires c = c.requires.0

pub returns-then-r-eq1 : goal.returns-then-r-eq1
returns-then-r-eq1 c = at_1 (words c.args.ws.now) (words c.args.ps.now) c.args.i c.args.next c.args.r (omega arith) c.tell.ensures

pub body_at-b-requires : goal.body_at-b-requires
body_at-b-requires c = c.requires.0

pub call-requires : goal.call-requires
call-requires c = (c.requires.0, c.body_at-b.ensures.0)

pub returns-then-r-eq2 : goal.returns-then-r-eq2
returns-then-r-eq2 c = at_2 (words c.args.ws.now) (words c.args.ps.now) c.args.i c.args.next c.args.r (omega arith) c.call.ensures

pub compose-requires : goal.compose-requires
compose-requires c = c.requires.0

pub returns-then-r-eq3 : goal.returns-then-r-eq3
returns-then-r-eq3 c = at_3 (words c.args.ws.now) (words c.args.ps.now) c.args.i c.args.next c.args.r (omega arith) c.compose.ensures

pub reveal-requires : goal.reveal-requires
reveal-requires c = (c.requires.0, omega (arith, c.requires.1, fresh_at_4 (words c.args.ws.now) c.args.i c.args.r (omega arith)))

pub returns-then-r-eq4 : goal.returns-then-r-eq4
returns-then-r-eq4 c = at_4 (words c.args.ws.now) (words c.args.ps.now) c.args.i c.args.next c.args.r (omega arith) c.reveal.ensures

pub choose-requires : goal.choose-requires
choose-requires c = (c.requires.0, omega (arith, c.requires.1, fresh_at_5 (words c.args.ws.now) c.args.i c.args.r (omega (arith, c.requires.3))))

pub returns : goal.returns
returns c = at_5 (words c.args.ws.now) (words c.args.ps.now) c.args.i c.args.next c.args.r (omega (arith, c.requires.3)) c.choose.ensures
