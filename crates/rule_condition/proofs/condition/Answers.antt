-- Two ranges. Assumes nothing.
use native.Mathlib.Omega.{arith}
use Rattle.mem_words.specs.Words.{words}
use Rattle.rule_build.specs.Built.{built, then, appended_as}
use Rattle.rule_build.specs.Cuts.{first, rest}
use Rattle.rule_effects.proofs.Pieces.{effect_7_is}
use Rattle.rule_condition.proofs.condition.Goals as goal

pub opening_of-c-requires : goal.opening_of-c-requires
opening_of-c-requires c = c.requires

pub overflow_add-e : goal.overflow_add-e
overflow_add-e c = omega (arith, c.count-n.ensures.small, c.end_of-e.ensures.1)

pub returns : goal.returns
returns c =
    let W = words c.args.ws.now in
    built (appended_as _ (effect_7_is W c.args.i _ _ _ c.end_of-e.ensures.0 c.opening_of-c.ensures.0 c.end_of-z.ensures.0) (then (first W _ c.append_range-k.ensures) (rest W _ _ c.count-n.ensures.is c.append_range.ensures)))
