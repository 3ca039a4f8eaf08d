-- One number after the other. Assumes nothing.
use native.Mathlib.Omega.{arith}
use Rattle.work_tables.specs.Tables.{laid_after}
use Rattle.step_frames.proofs.Frames.{pushed_of}
use Rattle.step_frames.proofs.push.Goals as goal

pub overflow_mul-i : goal.overflow_mul-i
overflow_mul-i c = omega (arith, c.requires.inside)

pub overflow_add-x : goal.overflow_add-x
overflow_add-x c = omega (arith, c.requires.inside)

pub overflow_add-y : goal.overflow_add-y
overflow_add-y c = omega (arith, c.requires.inside)

pub overflow_add-z : goal.overflow_add-z
overflow_add-z c = omega (arith, c.requires.inside)

pub put-requires : goal.put-requires
put-requires c = record { laid = c.requires.laid; inside = omega (arith, c.requires.inside); small = c.requires.depth }

pub put-requires-2 : goal.put-requires-2
put-requires-2 c = record { laid = laid_after c.requires.laid c.put.ensures.rest; inside = omega (arith, c.requires.inside); small = c.requires.words }

pub put-requires-3 : goal.put-requires-3
put-requires-3 c = record { laid = laid_after (laid_after c.requires.laid c.put.ensures.rest) c.put-2.ensures.rest; inside = omega (arith, c.requires.inside); small = c.requires.trail }

pub put-requires-4 : goal.put-requires-4
put-requires-4 c = record { laid = laid_after (laid_after (laid_after c.requires.laid c.put.ensures.rest) c.put-2.ensures.rest) c.put-3.ensures.rest; inside = omega (arith, c.requires.inside); small = c.requires.apps }

pub returns : goal.returns
returns c = pushed_of c.requires.laid c.requires.inside c.put.ensures c.put-2.ensures c.put-3.ensures c.put-4.ensures
