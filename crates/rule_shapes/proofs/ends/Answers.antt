-- By the word. Assumes nothing.
use Rattle.mem_words.specs.Words.{words}
use Rattle.rule_shapes.specs.Tests.{ends_is}
use Rattle.rule_shapes.proofs.ends.Goals as goal

pub returns : goal.returns
returns c = ends_is (words c.args.ws.now) c.args.j _ _ c.word_at-w.ensures.is c.is_end.ensures
