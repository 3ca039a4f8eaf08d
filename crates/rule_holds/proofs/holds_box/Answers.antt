-- By what opens around it. Assumes nothing.
use native.Mathlib.Omega.{arith}
use Rattle.mem_words.specs.Words.{words}
use Rattle.rule_holds.specs.Holding.{holds_is}
use Rattle.rule_holds.proofs.holds_box.Goals as goal

pub opening_of-o-requires : goal.opening_of-o-requires
opening_of-o-requires c = omega (arith, c.requires)

pub returns : goal.returns
returns c = holds_is (words c.args.ws.now) c.args.g c.args.i _ _ c.opening_of-o.ensures.0 c.within.ensures
