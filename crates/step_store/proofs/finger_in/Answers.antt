-- On the words of the configuration. Assumes nothing.
use native.Mathlib.Omega.{arith}
use Rattle.mem_parts.specs.Parts.{cut}
use Rattle.step_store.specs.Regions.{config_part}
use Rattle.step_store.proofs.finger_in.Goals as goal

pub overflow_mul-e : goal.overflow_mul-e
overflow_mul-e c = omega (arith, c.requires.0)

pub overflow_add-e : goal.overflow_add-e
overflow_add-e c = omega (arith, c.requires.0)

pub slice_bounds-after-end : goal.slice_bounds-after-end
slice_bounds-after-end c = omega (arith, c.requires.0, c.requires.1)

pub after-requires : goal.after-requires
unfolding cut config_part
after-requires c = (c.requires.2, c.requires.3, c.requires.4)

pub returns : goal.returns
unfolding cut config_part
returns c = c.after.ensures
