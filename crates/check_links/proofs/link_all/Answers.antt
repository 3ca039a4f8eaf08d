-- The nodes below i are linked. Assumes nothing.
use mathlib.Core.Path.{◌≡◌, subst}
use native.Mathlib.Omega.{arith}
use lib.ListN.{length}
use Rattle.mem_numbers.specs.Numbers.{triples}
use Rattle.work_tables.specs.Tables.{laid_after}
use Rattle.check_nodetables.specs.Tables.{heads_of, nexts_of, outside_same, get_head, set_head, set_next, put_head, put_next}
use Rattle.check_links.specs.Links.{Linked}
use Rattle.check_links.proofs.Linking.{linked_none, linking_more}
use Rattle.check_links.proofs.link_all.Goals as goal

pub loop-i-init : goal.loop-i-init
loop-i-init c = record { laid = c.requires.0; low = omega arith; high = omega (arith, c.count-n.ensures.is, c.requires.1.some); linked = linked_none (triples c.args.cells.now) (heads_of c.args.w.now) (nexts_of c.args.w.now) c.requires.2; rest = outside_same }

pub parent_of-p-requires : goal.parent_of-p-requires
parent_of-p-requires c = omega (arith, c.count-n.ensures.is)

pub get-h-requires-clause-can : goal.get-h-requires-clause-can
get-h-requires-clause-can c = get_head c.loop-i.invariant.laid (omega (arith, c.parent_of-p.ensures, c.count-n.ensures.is, c.requires.1.most, c.requires.1.rooted.lower c.loop-i.i (omega (arith, c.loop-i.invariant.low)) (omega (arith, c.count-n.ensures.is))))

pub put-requires-clause-can : goal.put-requires-clause-can
put-requires-clause-can c = set_next c.loop-i.invariant.laid (omega (arith, c.count-n.ensures.is, c.requires.1.most)) c.get-h.ensures.small

pub put-requires-in-loop-i-clause-can : goal.put-requires-in-loop-i-clause-can
put-requires-in-loop-i-clause-can c = set_head (laid_after c.loop-i.invariant.laid (put_next c.loop-i.invariant.laid c.put.ensures).rest) (omega (arith, c.parent_of-p.ensures, c.count-n.ensures.is, c.requires.1.most, c.requires.1.rooted.lower c.loop-i.i (omega (arith, c.loop-i.invariant.low)) (omega (arith, c.count-n.ensures.is)))) (omega (arith, c.count-n.ensures.is, c.requires.1.most))

pub loop-i-preserved : goal.loop-i-preserved
unfolding heads_of
loop-i-preserved c = linking_more c.requires.1 c.count-n.ensures.is c.loop-i.invariant (omega arith) c.parent_of-p.ensures c.get-h.ensures.is (put_next c.loop-i.invariant.laid c.put.ensures) (put_head c.put-in-loop-i.ensures)

pub returns : goal.returns
returns c = let e : c.loop-i.i ≡ length (triples c.args.cells.now) = omega (arith, c.count-n.ensures.is, c.loop-i.invariant.high) in (subst (Linked (triples c.args.cells.now) (heads_of c.loop-i.w) (nexts_of c.loop-i.w)) e c.loop-i.invariant.linked, c.loop-i.invariant.rest)
