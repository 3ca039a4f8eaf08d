-- One after the other. Assumes nothing.
use Rattle.rule_build.specs.Built.{then}
use Rattle.rule_word.proofs.append_two.Goals as goal

pub append_word-k-requires : goal.append_word-k-requires
append_word-k-requires c = c.requires.0

pub append_word-requires : goal.append_word-requires
append_word-requires c = c.requires.1

pub returns : goal.returns
returns c = then c.append_word-k.ensures c.append_word.ensures
