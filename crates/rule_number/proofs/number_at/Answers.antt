-- A word that was read is small. Assumes nothing.
use Rattle.rule_number.specs.Small.{number_read}
use Rattle.rule_number.proofs.number_at.Goals as goal

pub returns : goal.returns
returns c = number_read _ c.word_at-w.ensures c.number_of.ensures
