-- The positions, one after another. Assumes nothing.
use mathlib.Core.Path.{ap, ◌∙◌}
use mathlib.Core.Bool.{cond}
use Prim.Native.Nat.{◌+◌}
use native.Mathlib.Omega.{arith}
use Rattle.mem_words.specs.declared.Word.{Word}
use Rattle.mem_words.specs.Words.{words}
use Rattle.rule_build.specs.Built.{built_as}
use Rattle.rule_effects.specs.Effects.{begins_true}
use Rattle.rule_effects.proofs.Pieces.{effect_1_is}
use Rattle.rule_tell.proofs.tell.Goals as goal

pub inbox_of-x-requires : goal.inbox_of-x-requires
inbox_of-x-requires c = c.requires

pub overflow_add-i : goal.overflow_add-i
overflow_add-i c = omega (arith, c.count-n.ensures.small, c.count-n.ensures.is, c.requires)

pub overflow_add-i-2 : goal.overflow_add-i-2
overflow_add-i-2 c = omega (arith, c.count-n.ensures.small, c.count-n.ensures.is, c.requires)

pub move_in-requires : goal.move_in-requires
move_in-requires c = (c.requires, c.end_of-e.ensures.1)

pub returns : goal.returns
returns c = built_as _ (effect_1_is (words c.args.ws.now) c.args.i _ _ _ _ _ c.inbox_of-x.ensures.box c.inbox_of-x.ensures.locals c.inbox_of-x.ensures.store c.end_of-e.ensures.0 (c.told_up_to-b.ensures ∙ ap (λ (w : Word). cond (begins_true w) (c.args.i + 1) c.end_of-e.result) c.word_at-w.ensures.is)) c.move_in.ensures
