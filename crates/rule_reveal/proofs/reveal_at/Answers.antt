-- Piece by piece. Assumes nothing.
use native.Mathlib.Omega.{arith}
use Rattle.mem_words.specs.Words.{words}
use Rattle.rule_build.specs.Built.{built, then, appended_as}
use Rattle.rule_build.specs.Cuts.{first, rest}
use Rattle.rule_reveal.specs.Found.{revealed_is}
use Rattle.rule_reveal.proofs.reveal_at.Goals as goal

pub append_frees-k2-requires : goal.append_frees-k2-requires
append_frees-k2-requires c = c.requires.2

pub overflow_add-i : goal.overflow_add-i
overflow_add-i c = omega (arith, c.count-c.ensures.small, c.count-c.ensures.is, c.requires.0)

pub overflow_add-i-2 : goal.overflow_add-i-2
overflow_add-i-2 c = omega (arith, c.count-c.ensures.small, c.count-c.ensures.is, c.requires.0)

pub append_fresh-k4-requires : goal.append_fresh-k4-requires
append_fresh-k4-requires c = c.requires.2

pub overflow_add-s : goal.overflow_add-s
overflow_add-s c = omega (arith, c.count-c.ensures.small, c.count-c.ensures.is, c.requires.1)

pub returns : goal.returns
returns c =
    let W = words c.args.ws.now in
    built (appended_as _ (revealed_is W c.args.i c.args.n c.args.next c.args.u c.args.s) (then (first W _ c.append_range-k1.ensures) (then c.append_frees-k2.ensures (then c.append_range-k3.ensures (then c.append_fresh-k4.ensures (rest W _ _ c.count-c.ensures.is c.append_range.ensures))))))
