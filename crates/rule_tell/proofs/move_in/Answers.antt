-- Four ranges. Assumes nothing.
use native.Mathlib.Omega.{arith}
use Rattle.mem_words.specs.Words.{words}
use Rattle.rule_build.specs.Built.{built, then, appended_as}
use Rattle.rule_build.specs.Cuts.{first, rest}
use Rattle.rule_effects.proofs.Pieces.{told_is}
use Rattle.rule_tell.proofs.move_in.Goals as goal

pub overflow_add-i : goal.overflow_add-i
overflow_add-i c = omega (arith, c.count-n.ensures.small, c.count-n.ensures.is, c.requires.0)

pub overflow_add-e : goal.overflow_add-e
overflow_add-e c = omega (arith, c.count-n.ensures.small, c.count-n.ensures.is, c.requires.1)

pub returns : goal.returns
returns c =
    let W = words c.args.ws.now in
    built (appended_as _ (told_is W c.args.i c.args.s c.args.b c.args.e) (then (first W _ c.append_range-k.ensures) (then c.append_range-l.ensures (then c.append_range-m.ensures (rest W _ _ c.count-n.ensures.is c.append_range.ensures)))))
