-- The cells are the part. Assumes nothing.
use Rattle.mem_parts.specs.Parts.{cut}
use Rattle.work_classes.proofs.below_in.Goals as goal

pub below-requires : goal.below-requires
unfolding cut
below-requires c = (c.requires.2.ina, c.requires.2.inb, c.requires.2.size, c.requires.2.apart)

pub returns : goal.returns
unfolding cut
returns c = c.below.ensures
