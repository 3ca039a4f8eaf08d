-- On the words of the configuration. Assumes nothing.
use native.Mathlib.Omega.{arith}
use Rattle.mem_parts.specs.Parts.{cut}
use Rattle.step_store.specs.Regions.{config_part}
use Rattle.step_store.proofs.fresh.Goals as goal

pub overflow_mul-e : goal.overflow_mul-e
overflow_mul-e c = omega (arith, c.requires.0)

pub overflow_add-e : goal.overflow_add-e
overflow_add-e c = omega (arith, c.requires.0)

pub slice_bounds-fresh_for-end : goal.slice_bounds-fresh_for-end
slice_bounds-fresh_for-end c = omega (arith, c.requires.0, c.requires.1)

pub fresh_for-requires : goal.fresh_for-requires
unfolding cut config_part
fresh_for-requires c = c.requires.2

pub returns : goal.returns
unfolding cut config_part
returns c = c.fresh_for.ensures
