-- The positions, one after another. Assumes nothing.
use native.Mathlib.Omega.{arith}
use Rattle.mem_words.specs.Words.{words}
use Rattle.rule_build.specs.Built.{built_as}
use Rattle.rule_reveal.specs.Found.{fresh_4_is, effect_4_is}
use Rattle.rule_reveal.proofs.reveal.Goals as goal

pub overflow_add-i : goal.overflow_add-i
overflow_add-i c = omega (arith, c.count-c.ensures.small, c.count-c.ensures.is, c.requires.0)

pub inbox_of-x-requires : goal.inbox_of-x-requires
inbox_of-x-requires c = c.requires.0

pub overflow_add-i-2 : goal.overflow_add-i-2
overflow_add-i-2 c = omega (arith, c.count-c.ensures.small, c.count-c.ensures.is, c.requires.0)

pub reveal_at-requires : goal.reveal_at-requires
reveal_at-requires c = (c.requires.0, c.end_of-s.ensures.1, omega (arith, fresh_4_is (words c.args.ws.now) c.args.i _ c.number_at-n.ensures.0, c.requires.1))

pub returns : goal.returns
returns c = built_as _ (effect_4_is (words c.args.ws.now) c.args.i c.args.next _ _ _ _ c.number_at-n.ensures.0 c.inbox_of-x.ensures.box c.inbox_of-x.ensures.locals c.end_of-s.ensures.0) c.reveal_at.ensures
