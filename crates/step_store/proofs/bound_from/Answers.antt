-- On the part. Assumes nothing.
use Rattle.mem_parts.specs.Parts.{cut}
use Rattle.step_store.proofs.bound_from.Goals as goal

pub bound-requires : goal.bound-requires
unfolding cut
bound-requires c = record { room = c.requires.0.room; few = c.requires.0.few; closed = c.requires.0.closed }

pub returns : goal.returns
unfolding cut
returns c = c.bound.ensures
