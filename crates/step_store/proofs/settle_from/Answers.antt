-- On the part. Assumes nothing.
use Rattle.mem_parts.specs.Parts.{cut}
use Rattle.step_store.proofs.settle_from.Goals as goal

pub settle-requires : goal.settle-requires
unfolding cut
settle-requires c = c.requires.0

pub returns : goal.returns
unfolding cut
returns c = c.settle.ensures
