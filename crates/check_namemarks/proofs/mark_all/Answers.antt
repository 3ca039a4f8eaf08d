-- The nodes below i are marked. Assumes nothing.
use mathlib.Core.Path.{◌≡◌, subst}
use native.Mathlib.Omega.{arith}
use lib.ListN.{length}
use Rattle.mem_numbers.specs.Numbers.{triples}
use Rattle.check_nodetables.specs.Tables.{kinds_of, outside_same, get_kind, set_kind, put_kind}
use Rattle.check_namemarks.specs.Marks.{MarkedTo}
use Rattle.check_namemarks.proofs.Marking.{root_marked, marking_more}
use Rattle.check_namemarks.proofs.mark_all.Goals as goal

pub loop-i-init : goal.loop-i-init
loop-i-init c = record { laid = c.requires.0; low = omega arith; high = omega (arith, c.count-n.ensures.is, c.requires.1.some); marks = root_marked (triples c.args.cells.now) (kinds_of c.args.w.now) c.requires.2; rest = outside_same }

pub parent_of-p-requires : goal.parent_of-p-requires
parent_of-p-requires c = omega (arith, c.count-n.ensures.is)

pub byte_of-x-requires : goal.byte_of-x-requires
byte_of-x-requires c = omega (arith, c.count-n.ensures.is)

pub get1-s-requires : goal.get1-s-requires
get1-s-requires c = get_kind c.loop-i.invariant.laid (omega (arith, c.parent_of-p.ensures, c.count-n.ensures.is, c.requires.1.most, c.requires.1.rooted.lower c.loop-i.i (omega (arith, c.loop-i.invariant.low)) (omega (arith, c.count-n.ensures.is))))

pub mark-v-requires : goal.mark-v-requires
mark-v-requires c = c.get1-s.ensures.small

pub put1-requires : goal.put1-requires
put1-requires c = set_kind c.loop-i.invariant.laid (omega (arith, c.count-n.ensures.is, c.requires.1.most)) c.mark-v.ensures.1

pub loop-i-preserved : goal.loop-i-preserved
unfolding kinds_of
loop-i-preserved c = marking_more c.requires.1 c.count-n.ensures.is c.loop-i.invariant (omega arith) c.parent_of-p.ensures c.byte_of-x.ensures c.get1-s.ensures.is c.mark-v.ensures.0 (put_kind c.put1.ensures)

pub returns : goal.returns
returns c = let e : c.loop-i.i ≡ length (triples c.args.cells.now) = omega (arith, c.count-n.ensures.is, c.loop-i.invariant.high) in (subst (MarkedTo (triples c.args.cells.now) (kinds_of c.loop-i.w)) e c.loop-i.invariant.marks, c.loop-i.invariant.rest)
