-- Piece by piece. Assumes nothing.
use native.Mathlib.Omega.{arith}
use Rattle.mem_words.specs.Words.{words}
use Rattle.rule_build.specs.Built.{built, then, appended_as}
use Rattle.rule_build.specs.Cuts.{first, rest}
use Rattle.rule_effects.proofs.Pieces.{parted_is}
use Rattle.rule_split.proofs.part_box.Goals as goal

pub append_word-k2-requires : goal.append_word-k2-requires
append_word-k2-requires c = record { value = omega arith }

pub overflow_add-i : goal.overflow_add-i
overflow_add-i c = omega (arith, c.count-n.ensures.small, c.count-n.ensures.is, c.requires)

pub append_word-k7-requires : goal.append_word-k7-requires
append_word-k7-requires c = record { value = omega arith }

pub returns : goal.returns
returns c =
    let W = words c.args.ws.now in
    built (appended_as _ (parted_is W c.args.i c.args.a c.args.q c.args.e c.args.j) (then (first W _ c.append_range-k1.ensures) (then c.append_word-k2.ensures (then c.append_range-k3.ensures (then c.append_range-k4.ensures (then c.append_range-k5.ensures (then c.append_range-k6.ensures (then c.append_word-k7.ensures (rest W _ _ c.count-n.ensures.is c.append_range.ensures)))))))))
