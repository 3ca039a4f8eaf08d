-- Two ranges and failure between them. Assumes nothing.
use native.Mathlib.Omega.{arith}
use Rattle.mem_words.specs.Words.{words}
use Rattle.rule_build.specs.Built.{built, then, appended_as}
use Rattle.rule_build.specs.Cuts.{first, rest}
use Rattle.rule_effects.proofs.Pieces.{effect_9_is}
use Rattle.rule_failure.proofs.fail_box.Goals as goal

pub append_two-l-requires : goal.append_two-l-requires
append_two-l-requires c = (record { value = omega arith }, record { value = omega arith })

pub overflow_add-e : goal.overflow_add-e
overflow_add-e c = omega (arith, c.count-n.ensures.small, c.end_of-e.ensures.1)

pub returns : goal.returns
returns c =
    let W = words c.args.ws.now in
    built (appended_as _ (effect_9_is W c.args.i _ c.end_of-e.ensures.0) (then (first W _ c.append_range-k.ensures) (then c.append_two-l.ensures (rest W _ _ c.count-n.ensures.is c.append_range.ensures))))
