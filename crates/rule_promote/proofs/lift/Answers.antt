-- Piece by piece. Assumes nothing.
use native.Mathlib.Omega.{arith}
use Rattle.mem_words.specs.Words.{words}
use Rattle.rule_build.specs.Built.{built, then, appended_as}
use Rattle.rule_build.specs.Cuts.{first, rest}
use Rattle.rule_effects.proofs.Pieces.{promoted_is}
use Rattle.rule_promote.proofs.lift.Goals as goal

pub overflow_add-i : goal.overflow_add-i
overflow_add-i c = omega (arith, c.count-n.ensures.small, c.count-n.ensures.is, c.requires.0)

pub overflow_add-v : goal.overflow_add-v
overflow_add-v c = omega (arith, c.count-n.ensures.small, c.count-n.ensures.is, c.requires.1)

pub append_word-k6-requires : goal.append_word-k6-requires
append_word-k6-requires c = record { value = omega arith }

pub returns : goal.returns
returns c =
    let W = words c.args.ws.now in
    built (appended_as _ (promoted_is W c.args.i c.args.u c.args.s c.args.v c.args.t c.args.b c.args.c c.args.e) (then (first W _ c.append_range-k1.ensures) (then c.append_range-k2.ensures (then c.append_range-k3.ensures (then c.append_range-k4.ensures (then c.append_range-k5.ensures (then c.append_word-k6.ensures (then c.append_range-k7.ensures (rest W _ _ c.count-n.ensures.is c.append_range.ensures)))))))))
