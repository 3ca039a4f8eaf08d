-- Whether the choice-box opens before it. Assumes nothing.
use Rattle.mem_words.specs.Words.{words}
use Rattle.rule_shapes.specs.Tests.{left_is, left_is_not}
use Rattle.rule_beside.proofs.has_left.Goals as goal

pub opening_of-a-requires : goal.opening_of-a-requires
opening_of-a-requires c = c.requires

pub returns-then-a-i : goal.returns-then-a-i
returns-then-a-i c = left_is_not (words c.args.ws.now) c.args.i _ c.opening_of-a.ensures.0 c.if-a-i.true

pub returns : goal.returns
returns c = left_is (words c.args.ws.now) c.args.i _ c.opening_of-a.ensures.0 c.if-a-i.false
