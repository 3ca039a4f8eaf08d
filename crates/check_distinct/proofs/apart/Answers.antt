-- Nodes are linked, stamps cleared, children walked over. Assumes nothing.
use native.Mathlib.Omega.{arith}
use Rattle.mem_parts.specs.Parts.{outside_then}
use Rattle.work_tables.specs.Tables.{laid_after}
use Rattle.check_nodetables.specs.Tables.{joined_looked, stamped_looked, zero_stamps}
use Rattle.check_distinct.proofs.Walking.{linked_kept}
use Rattle.check_distinct.proofs.apart.Goals as goal

pub zero-requires : goal.zero-requires
zero-requires c = record { le = omega arith; fits = omega (arith, (laid_after c.requires.0 c.link.ensures.1).long) }

pub walk_all-requires : goal.walk_all-requires
walk_all-requires c = (laid_after (laid_after c.requires.0 c.link.ensures.1) c.zero.ensures.rest, c.requires.1, linked_kept (laid_after c.requires.0 c.link.ensures.1) c.zero.ensures.rest c.link.ensures.0, zero_stamps c.zero.ensures)

pub returns : goal.returns
returns c = (c.walk_all.ensures.0, outside_then (joined_looked c.link.ensures.1) (stamped_looked (outside_then c.zero.ensures.rest c.walk_all.ensures.1)))
