-- The body between two ranges. Assumes nothing.
use native.Mathlib.Omega.{arith}
use Rattle.mem_words.specs.Words.{words}
use Rattle.rule_build.specs.Built.{built, then, appended_as}
use Rattle.rule_build.specs.Cuts.{first, rest}
use Rattle.rule_call.specs.Found.{effect_2_is}
use Rattle.rule_call.proofs.call.Goals as goal

pub overflow_add-i : goal.overflow_add-i
overflow_add-i c = omega (arith, c.count-n.ensures.small, c.count-n.ensures.is, c.requires.0)

pub overflow_add-i-2 : goal.overflow_add-i-2
overflow_add-i-2 c = omega (arith, c.count-n.ensures.small, c.count-n.ensures.is, c.requires.0)

pub overflow_add-o : goal.overflow_add-o
overflow_add-o c = omega (arith, c.count-c.ensures.small, c.count-c.ensures.is, c.end_of-o.ensures.1)

pub overflow_add-i-3 : goal.overflow_add-i-3
overflow_add-i-3 c = omega (arith, c.count-n.ensures.small, c.count-n.ensures.is, c.requires.0)

pub overflow_add-v : goal.overflow_add-v
overflow_add-v c = omega (arith, c.count-n.ensures.small, c.count-n.ensures.is, c.end_of-v.ensures.1)

pub returns : goal.returns
returns c =
    let W = words c.args.ws.now in
    built (appended_as _ (effect_2_is W (words c.args.ps.now) c.args.i _ c.args.b _ c.requires.1 c.end_of-v.ensures.0 c.end_of-o.ensures.0) (then (first W _ c.append_range-k.ensures) (then c.append_opened-l.ensures (rest W _ _ c.count-n.ensures.is c.append_range.ensures))))
