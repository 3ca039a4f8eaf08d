-- What is cheap first. Assumes nothing.
use Rattle.mem_words.specs.Words.{words}
use Rattle.step_calm.proofs.Walkable.{can_walk}
use Rattle.step_stable.proofs.Pieces.{goal_order, goal_ends, own_stirs, boxes_stir_it, places_stir, guards_decide}
use Rattle.step_stable.proofs.stable.Goals as goal

pub returns-then-goal_stirs : goal.returns-then-goal_stirs
returns-then-goal_stirs c = (own_stirs c.requires.1 c.goal_stirs.ensures.0 c.if-goal_stirs.true, c.goal_stirs.ensures.1)

pub places_rest-requires : goal.places_rest-requires
places_rest-requires c = (goal_order c.requires.1, goal_ends c.requires.1)

pub calm-requires : goal.calm-requires
calm-requires c = (c.goal_stirs.ensures.1, can_walk (words c.args.t.now) (words c.args.d.now) c.args.g c.requires.1)

pub guards_rest-r-requires : goal.guards_rest-r-requires
guards_rest-r-requires c = (c.calm.ensures.1, can_walk (words c.args.t.now) (words c.args.d.now) c.args.g c.requires.1)

pub returns-then-calm : goal.returns-then-calm
returns-then-calm c = (guards_decide c.requires.1 c.goal_stirs.ensures.0 c.if-goal_stirs.false c.places_rest.ensures c.if-places_rest.true c.calm.ensures.0 c.if-calm.true c.guards_rest-r.ensures.0, c.guards_rest-r.ensures.1)

pub returns-then-places_rest : goal.returns-then-places_rest
returns-then-places_rest c = (boxes_stir_it c.calm.ensures.0 c.if-calm.false, c.calm.ensures.1)

pub returns : goal.returns
returns c = (places_stir c.places_rest.ensures c.if-places_rest.false, c.goal_stirs.ensures.1)
