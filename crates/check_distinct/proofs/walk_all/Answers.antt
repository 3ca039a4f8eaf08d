-- The children of the nodes below p have different bytes. Assumes nothing.
use native.Mathlib.Omega.{arith}
use Rattle.mem_numbers.specs.Numbers.{triples}
use Rattle.mem_parts.specs.Parts.{outside_then}
use Rattle.check_nodetables.specs.Tables.{stamps_of}
use Rattle.check_distinct.proofs.Walking.{going_none, going_more, all_apart, walked_yes, walked_no}
use Rattle.check_distinct.proofs.walk_all.Goals as goal

pub loop-p-init : goal.loop-p-init
loop-p-init c = going_none c.requires.0 c.requires.2 c.requires.3

pub walk-requires : goal.walk-requires
walk-requires c = (c.loop-p.invariant.laid, c.requires.1, c.loop-p.invariant.linked, c.loop-p.invariant.most, omega (arith, c.count-n.ensures.is))

pub returns-then-not-walk : goal.returns-then-not-walk
returns-then-not-walk c = (walked_no (triples c.args.cells.now) (stamps_of c.walk.new.w) c.loop-p.p c.walk.result (c.if-not-walk.true) c.walk.ensures.0, outside_then c.loop-p.invariant.rest c.walk.ensures.1)

pub loop-p-preserved : goal.loop-p-preserved
loop-p-preserved c = going_more c.loop-p.invariant (omega arith) (walked_yes (triples c.args.cells.now) (stamps_of c.walk.new.w) c.loop-p.p c.walk.result (c.if-not-walk.false) c.walk.ensures.0) c.walk.ensures.1

pub returns : goal.returns
returns c = (all_apart c.loop-p.p c.requires.1 (omega (arith, c.count-n.ensures.is)) c.loop-p.invariant.differ, c.loop-p.invariant.rest)
