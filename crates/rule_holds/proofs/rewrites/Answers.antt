-- By what the rule rewrites. Assumes nothing.
use native.Mathlib.Omega.{arith}
use Rattle.mem_words.specs.Words.{words}
use Rattle.rule_holds.specs.Holding.{rewrites_is}
use Rattle.rule_holds.proofs.rewrites.Goals as goal

pub holds_box-requires : goal.holds_box-requires
holds_box-requires c = omega (arith, c.requires)

pub returns-in-Itself : goal.returns-in-Itself
returns-in-Itself c = rewrites_is c.args.w _ (words c.args.ws.now) c.args.g c.args.i _ c.in-Itself.is c.within.ensures

pub returns-in-Holder : goal.returns-in-Holder
returns-in-Holder c = rewrites_is c.args.w _ (words c.args.ws.now) c.args.g c.args.i _ c.in-Holder.is c.holds_box.ensures
