-- First children are made zero, so that there are none. Assumes nothing.
use native.Mathlib.Omega.{arith}
use Rattle.mem_parts.specs.Parts.{outside_then, outside_wide}
use Rattle.work_tables.specs.Tables.{laid_after}
use Rattle.check_nodetables.specs.Tables.{zero_heads}
use Rattle.check_links.proofs.link.Goals as goal

pub zero-requires : goal.zero-requires
zero-requires c = record { le = omega arith; fits = omega (arith, c.requires.0.long) }

pub link_all-requires : goal.link_all-requires
link_all-requires c = (laid_after c.requires.0 c.zero.ensures.rest, c.requires.1, zero_heads c.zero.ensures)

pub returns : goal.returns
returns c = (c.link_all.ensures.0, outside_then (outside_wide 65536 147496 (omega arith) (omega arith) c.zero.ensures.rest) c.link_all.ensures.1)
