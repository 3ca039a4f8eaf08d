-- At the and-box around. Assumes nothing.
use native.Mathlib.Omega.{arith}
use Rattle.mem_words.specs.Words.{words}
use Rattle.rule_build.specs.Built.{built_as}
use Rattle.rule_effects.proofs.Pieces.{effect_10_is}
use Rattle.rule_failure.proofs.fail_goal.Goals as goal

pub opening_of-a-requires : goal.opening_of-a-requires
opening_of-a-requires c = c.requires

pub fail_box-requires : goal.fail_box-requires
fail_box-requires c = omega (arith, c.opening_of-a.ensures.1, c.requires)

pub returns : goal.returns
returns c = built_as _ (effect_10_is (words c.args.ws.now) c.args.i _ c.opening_of-a.ensures.0) c.fail_box.ensures
