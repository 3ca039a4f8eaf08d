-- The clauses between two ranges. Assumes nothing.
use mathlib.Core.Path.{ap, ◌∙◌}
use native.Mathlib.Omega.{arith}
use Rattle.mem_words.specs.declared.Word.{Word}
use Rattle.mem_words.specs.Words.{words}
use Rattle.rule_build.specs.Built.{built, then, appended_as}
use Rattle.rule_build.specs.Cuts.{first, rest}
use Rattle.rule_effects.specs.Effects.{box_of}
use Rattle.rule_choose.specs.Found.{small_place, fresh_5_is, effect_5_is}
use Rattle.rule_choose.proofs.choose.Goals as goal

pub overflow_add-i : goal.overflow_add-i
overflow_add-i c = omega (arith, c.count-c.ensures.small, c.count-c.ensures.is, c.requires.0)

pub overflow_add-i-2 : goal.overflow_add-i-2
overflow_add-i-2 c = omega (arith, c.count-c.ensures.small, c.count-c.ensures.is, c.requires.0)

pub append_word-k2-requires : goal.append_word-k2-requires
append_word-k2-requires c = small_place _

pub overflow_add-i-3 : goal.overflow_add-i-3
overflow_add-i-3 c = omega (arith, c.count-c.ensures.small, c.count-c.ensures.is, c.requires.0)

pub append_clauses-k3-requires : goal.append_clauses-k3-requires
append_clauses-k3-requires c = omega (arith, fresh_5_is (words c.args.ws.now) c.args.i, c.requires.1)

pub overflow_add-z : goal.overflow_add-z
overflow_add-z c = omega (arith, c.count-c.ensures.small, c.count-c.ensures.is, c.end_of-z.ensures.1)

pub returns : goal.returns
returns c =
    let W = words c.args.ws.now in
    built (appended_as _ (effect_5_is W c.args.i c.args.next _ _ (c.box_word-d.ensures ∙ ap (λ (v : Word). box_of v) c.word_at-w.ensures.is) c.end_of-z.ensures.0) (then (first W _ c.append_range-k1.ensures) (then c.append_word-k2.ensures (then c.append_clauses-k3.ensures (rest W _ _ c.count-c.ensures.is c.append_range.ensures)))))
