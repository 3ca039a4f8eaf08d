-- One table after the other. Assumes nothing.
use Rattle.work_tables.specs.Tables.{laid_after}
use Rattle.answer_stack.specs.Slots.{pushed_of}
use Rattle.answer_stack.proofs.push.Goals as goal

pub place_put-requires : goal.place_put-requires
place_put-requires c = record { laid = c.requires.laid; inside = c.requires.inside; small = c.requires.place }

pub begun_put-requires : goal.begun_put-requires
begun_put-requires c = record { laid = laid_after c.requires.laid c.place_put.ensures.rest; inside = c.requires.inside; small = c.requires.begun }

pub returns : goal.returns
returns c = pushed_of c.place_put.ensures c.begun_put.ensures
