-- The first part with the body, then the rest as it stood. Assumes nothing.
use native.Mathlib.Omega.{arith}
use Rattle.mem_words.specs.Words.{words}
use Rattle.rule_build.specs.Built.{built, then, appended_as}
use Rattle.rule_build.specs.Cuts.{first, rest}
use Rattle.rule_effects.proofs.Pieces.{effect_13_is}
use Rattle.rule_distribute.proofs.distribute.Goals as goal

pub append_two-p-requires : goal.append_two-p-requires
append_two-p-requires c = (record { value = omega arith }, record { value = omega arith })

pub returns : goal.returns
returns c =
    let W = words c.args.ws.now in
    built (appended_as _ (effect_13_is W c.args.i _ _ _ c.end_of-q.ensures.0 c.end_of-o.ensures.0 c.end_of-e.ensures.0) (then (first W _ c.append_range-k.ensures) (then c.append_range-l.ensures (then c.append_range-m.ensures (then c.append_two-p.ensures (rest W _ _ c.count-n.ensures.is c.append_range.ensures))))))
