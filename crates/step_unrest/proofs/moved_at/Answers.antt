-- One rule after another. Assumes nothing.
use mathlib.Core.Bool.{true, false}
use native.Mathlib.Omega.{arith}
use Rattle.mem_words.specs.Words.{words}
use Rattle.step_unrest.proofs.Rounds.{unmoved_first, unmoved_next, moved_found, unmoved_all}
use Rattle.step_unrest.proofs.Moving.{shape_no_place, shape_and_box}
use Rattle.step_unrest.proofs.Tabled.{by_table}
use Rattle.step_unrest.proofs.moved_at.Goals as goal

pub kind-k-requires : goal.kind-k-requires
kind-k-requires c = omega (arith, c.requires)

pub returns-then-k-eq10 : goal.returns-then-k-eq10
returns-then-k-eq10 c = shape_no_place (words c.args.t.now) c.args.j c.kind-k.result c.kind-k.ensures (omega arith)

pub returns-then-k-eq7 : goal.returns-then-k-eq7
returns-then-k-eq7 c = shape_and_box (words c.args.t.now) c.args.j c.kind-k.result c.kind-k.ensures (omega arith)

pub loop-r-init : goal.loop-r-init
loop-r-init c = unmoved_first (words c.args.t.now) c.args.j

pub moved_by-requires : goal.moved_by-requires
moved_by-requires c = (c.requires, c.kind-k.ensures)

pub returns-then-moved_by : goal.returns-then-moved_by
returns-then-moved_by c = by_table (words c.args.t.now) c.args.j true (moved_found (words c.args.t.now) c.args.j c.loop-r.r c.moved_by.result (omega arith) c.moved_by.ensures c.if-moved_by.true c.loop-r.invariant)

pub overflow_add-r : goal.overflow_add-r
overflow_add-r c = omega arith

pub loop-r-smaller : goal.loop-r-smaller
loop-r-smaller c = omega arith

pub loop-r-preserved : goal.loop-r-preserved
loop-r-preserved c = unmoved_next (words c.args.t.now) c.args.j c.loop-r.r c.moved_by.result (omega arith) c.moved_by.ensures c.if-moved_by.false c.loop-r.invariant

pub returns : goal.returns
returns c = by_table (words c.args.t.now) c.args.j false (unmoved_all (words c.args.t.now) c.args.j c.loop-r.r (omega arith) c.loop-r.invariant)
