-- The positions, one after another. Assumes nothing.
use Rattle.rule_build.specs.Built.{built_as}
use Rattle.rule_effects.proofs.Pieces.{effect_6_is}
use Rattle.rule_promote.proofs.promote.Goals as goal

pub inbox_of-x-requires : goal.inbox_of-x-requires
inbox_of-x-requires c = c.requires

pub lift-requires : goal.lift-requires
lift-requires c = (c.requires, c.end_of-v.ensures.1)

pub returns : goal.returns
returns c = built_as _ (effect_6_is (record { box = c.inbox_of-x.ensures.box; locals = c.inbox_of-x.ensures.locals; store = c.inbox_of-x.ensures.store; inner_locals = c.end_of-v.ensures.0; inner_store = c.end_of-t.ensures.0; guard = c.end_of-g.ensures.0; body = c.end_of-c.ensures.0; end = c.end_of-e.ensures.0 })) c.lift.ensures
