-- On the part. Assumes nothing.
use Rattle.mem_parts.specs.Parts.{cut}
use Rattle.step_finger.proofs.open_in.Goals as goal

pub opening_of-requires : goal.opening_of-requires
unfolding cut
opening_of-requires c = c.requires.2

pub returns : goal.returns
unfolding cut
returns c = c.opening_of.ensures.0
