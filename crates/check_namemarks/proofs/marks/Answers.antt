-- The root is marked first. Assumes nothing.
use native.Mathlib.Omega.{arith}
use Rattle.mem_numbers.specs.Stored.{stored_same}
use Rattle.mem_parts.specs.Parts.{outside_then}
use Rattle.work_tables.specs.Tables.{laid_after}
use Rattle.check_nodetables.specs.Tables.{length_kinds, set_kind, put_kind}
use Rattle.check_namemarks.proofs.marks.Goals as goal

pub put1-requires : goal.put1-requires
put1-requires c = set_kind c.requires.0 (omega arith) (omega arith)

pub mark_all-requires : goal.mark_all-requires
mark_all-requires c = let t = put_kind c.put1.ensures in (laid_after c.requires.0 t.rest, c.requires.1, stored_same 0 t.kinds (omega (arith, length_kinds c.requires.0)))

pub returns : goal.returns
returns c = (c.mark_all.ensures.0, outside_then (put_kind c.put1.ensures).rest c.mark_all.ensures.1)
