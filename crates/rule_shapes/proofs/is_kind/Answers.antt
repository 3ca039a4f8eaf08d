-- By the numbers of the kinds. Assumes nothing.
use Rattle.mem_words.specs.Words.{words}
use Rattle.rule_shapes.specs.Tests.{kind_is, kind_is_not}
use Rattle.rule_shapes.proofs.is_kind.Goals as goal

pub returns-then-x-y : goal.returns-then-x-y
returns-then-x-y c = kind_is (words c.args.ws.now) c.args.j _ _ _ c.args.k c.word_at-w.ensures.is c.kind_of_word-x.ensures c.kind_no-y.ensures.0 c.if-x-y.true

pub returns : goal.returns
returns c = kind_is_not (words c.args.ws.now) c.args.j _ _ _ c.args.k c.word_at-w.ensures.is c.kind_of_word-x.ensures c.kind_no-y.ensures.0 c.if-x-y.false
