-- The cells are the part. Assumes nothing.
use Rattle.mem_parts.specs.Parts.{cut}
use Rattle.work_cells.proofs.find_in.Goals as goal

pub find-requires : goal.find-requires
unfolding cut
find-requires c = c.requires.2

pub returns : goal.returns
unfolding cut
returns c = c.find.ensures
