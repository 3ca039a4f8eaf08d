-- The first part, the end of a member and the beginning of another, the second part. Assumes nothing.
use native.Mathlib.Omega.{arith}
use Rattle.mem_words.specs.Words.{words}
use Rattle.rule_build.specs.Built.{built, then, appended_as}
use Rattle.rule_build.specs.Cuts.{first, rest}
use Rattle.rule_effects.proofs.Pieces.{effect_3_is}
use Rattle.rule_compose.proofs.compose.Goals as goal

pub append_two-m-requires : goal.append_two-m-requires
append_two-m-requires c = (record { value = omega arith }, record { value = omega arith })

pub returns : goal.returns
returns c =
    let W = words c.args.ws.now in
    built (appended_as _ (effect_3_is W c.args.i _ _ c.end_of-a.ensures.0 c.end_of-b.ensures.0) (then (first W _ c.append_range-k.ensures) (then c.append_range-l.ensures (then c.append_two-m.ensures (then c.append_range-o.ensures (rest W _ _ c.count-n.ensures.is c.append_range.ensures))))))
