-- The finger at the first word. Assumes nothing.
use Rattle.mem_words.specs.Words.{words}
use Rattle.rule_places.specs.Fingers.{points_first}
use Rattle.rule_places.proofs.position_of.Goals as goal

pub position_from-requires : goal.position_from-requires
position_from-requires c = points_first (words c.args.ws.now)

pub returns : goal.returns
returns c = c.position_from.ensures
