-- By the word behind. Assumes nothing.
use native.Mathlib.Omega.{arith}
use Rattle.mem_words.specs.Words.{words}
use Rattle.rule_kinds.specs.Kinds.{member_found}
use Rattle.rule_kinds.proofs.of_member.Goals as goal

pub overflow_add-i : goal.overflow_add-i
overflow_add-i c = omega (arith, c.count-c.ensures.small, c.count-c.ensures.is, c.requires)

pub returns : goal.returns
returns c = member_found (words c.args.ws.now) c.args.i _ _ c.word_at-w.ensures.is c.by_word.ensures
