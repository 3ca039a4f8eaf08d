-- The words are those of the part. Assumes nothing.
use Rattle.mem_parts.specs.Parts.{cut}
use Rattle.work_tables.proofs.word_in.Goals as goal

pub returns : goal.returns
unfolding cut
returns c = c.peek.ensures
