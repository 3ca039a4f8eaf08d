-- `mem_get::closing` meets its contract. Assumes nothing.
use Rattle.mem_words.specs.Words.{end_rest}
use Rattle.mem_get.proofs.closing.Goals as goal

pub returns-in_default : goal.returns-in_default
returns-in_default c = end_rest c.args.v c.in_default.in_default-own.rest.1
