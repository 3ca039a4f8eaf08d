-- The words and the cells are the parts. Assumes nothing.
use Rattle.mem_parts.specs.Parts.{cut}
use Rattle.work_explores.proofs.look_in.Goals as goal

pub look-requires : goal.look-requires
unfolding cut
look-requires c = c.requires.4

pub returns : goal.returns
unfolding cut
returns c = c.look.ensures
