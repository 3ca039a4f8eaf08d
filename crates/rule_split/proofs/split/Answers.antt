-- The positions, one after another. Assumes nothing.
use native.Mathlib.Omega.{arith}
use Rattle.mem_words.specs.Words.{words}
use Rattle.rule_build.specs.Built.{built_as}
use Rattle.rule_effects.proofs.Pieces.{effect_12_is}
use Rattle.rule_split.proofs.split.Goals as goal

pub opening_of-a-requires : goal.opening_of-a-requires
opening_of-a-requires c = c.requires

pub overflow_add-i : goal.overflow_add-i
overflow_add-i c = omega (arith, c.count-n.ensures.small, c.count-n.ensures.is, c.requires)

pub overflow_add-q : goal.overflow_add-q
overflow_add-q c = omega (arith, c.count-n.ensures.small, c.count-n.ensures.is, c.end_of-q.ensures.1)

pub overflow_add-j : goal.overflow_add-j
overflow_add-j c = omega (arith, c.count-n.ensures.small, c.count-n.ensures.is, c.end_of-j.ensures.1)

pub part_box-requires : goal.part_box-requires
part_box-requires c = c.requires

pub returns : goal.returns
returns c = built_as _ (effect_12_is (words c.args.ws.now) c.args.i _ _ _ _ c.opening_of-a.ensures.0 c.end_of-q.ensures.0 c.end_of-e.ensures.0 c.end_of-j.ensures.0) c.part_box.ensures
