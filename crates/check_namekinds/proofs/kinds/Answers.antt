-- Marks first, then kinds in their place. Assumes nothing.
use Rattle.mem_parts.specs.Parts.{outside_then}
use Rattle.work_tables.specs.Tables.{laid_after}
use Rattle.check_namekinds.proofs.kinds.Goals as goal

pub kind_all-requires : goal.kind_all-requires
kind_all-requires c = (laid_after c.requires.0 c.marks.ensures.1, c.requires.1, c.marks.ensures.0)

pub returns : goal.returns
returns c = (c.kind_all.ensures.0, outside_then c.marks.ensures.1 c.kind_all.ensures.1)
