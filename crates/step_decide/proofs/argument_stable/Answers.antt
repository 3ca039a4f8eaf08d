-- Only rule 12 has a goal as its argument. Assumes nothing.
use native.Mathlib.Omega.{arith}
use Rattle.mem_words.specs.Words.{words}
use Rattle.step_decide.proofs.Places.{stands_within}
use Rattle.step_decide.proofs.Conditions.{asks_none, can_ask, asks_unheld, asks_held}
use Rattle.step_decide.proofs.argument_stable.Goals as goal

pub returns-then-r-ne12 : goal.returns-then-r-ne12
returns-then-r-ne12 c = (asks_none (words c.args.t.now) (words c.args.d.now) c.args.r c.args.a c.args.i c.if-r-ne12.true, c.requires.0)

pub holds_box-requires : goal.holds_box-requires
holds_box-requires c = omega (arith, stands_within c.requires.1.state (words c.args.t.now) c.requires.1.place c.args.i c.requires.1.takes.stands)

pub returns-then-not-holds_box : goal.returns-then-not-holds_box
returns-then-not-holds_box c = (asks_unheld (words c.args.t.now) (words c.args.d.now) c.args.r c.args.a c.args.i c.position-g.result c.if-r-ne12.false c.position-g.ensures.0 c.requires.1.argument c.holds_box.result c.holds_box.ensures (c.if-not-holds_box.true), c.requires.0)

pub stable-requires : goal.stable-requires
stable-requires c = (c.requires.0, can_ask (words c.args.t.now) (words c.args.d.now) c.args.r c.args.a c.args.i c.position-g.result c.if-r-ne12.false c.position-g.ensures.0 c.requires.1.argument c.requires.1)

pub returns : goal.returns
returns c = (asks_held (words c.args.t.now) (words c.args.d.now) c.args.r c.args.a c.args.i c.position-g.result c.if-r-ne12.false c.position-g.ensures.0 c.requires.1.argument c.holds_box.result c.stable.result c.holds_box.ensures (c.if-not-holds_box.false) c.stable.ensures.0, c.stable.ensures.1)
