-- The rule's own condition, then the argument's. Assumes nothing.
use Rattle.mem_words.specs.Words.{words}
use Rattle.step_decide.proofs.Conditions.{can_apply, applies_not, applies_asked}
use Rattle.step_decide.proofs.has_condition.Goals as goal

pub applies-requires : goal.applies-requires
applies-requires c = (c.requires.0, can_apply c.requires.1)

pub returns-then-not-applies : goal.returns-then-not-applies
returns-then-not-applies c = (applies_not (words c.args.t.now) (words c.args.d.now) c.args.r c.args.a c.args.i c.applies.result c.applies.ensures.0 (c.if-not-applies.true), c.applies.ensures.1)

pub argument_stable-requires : goal.argument_stable-requires
argument_stable-requires c = (c.applies.ensures.1, c.requires.1)

pub returns : goal.returns
returns c = (applies_asked (words c.args.t.now) (words c.args.d.now) c.args.r c.args.a c.args.i c.applies.result c.argument_stable.result c.applies.ensures.0 (c.if-not-applies.false) c.argument_stable.ensures.0, c.argument_stable.ensures.1)
