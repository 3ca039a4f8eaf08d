-- One rule after another. Assumes nothing.
use mathlib.Core.Path.{refl, ◌∙◌}
use native.Mathlib.Omega.{arith}
use Rattle.mem_words.specs.Words.{words}
use Rattle.step_unrest.proofs.Rounds.{passed_first, passed_next, passed_found, passed_all}
use Rattle.step_unrest.proofs.disturbed.Goals as goal

pub loop-r-init : goal.loop-r-init
loop-r-init c = (c.requires.0, refl, passed_first (words c.args.t.now) (words c.args.d.now) c.args.g c.args.j)

pub disturbed_by-requires : goal.disturbed_by-requires
disturbed_by-requires c = (c.loop-r.invariant.0, c.requires.1, c.requires.2)

pub returns-then-disturbed_by : goal.returns-then-disturbed_by
returns-then-disturbed_by c = (passed_found (words c.args.t.now) (words c.args.d.now) c.args.g c.args.j c.loop-r.r c.disturbed_by.result (omega arith) c.disturbed_by.ensures.0 c.if-disturbed_by.true c.loop-r.invariant.2, c.disturbed_by.ensures.1)

pub overflow_add-r : goal.overflow_add-r
overflow_add-r c = omega arith

pub loop-r-smaller : goal.loop-r-smaller
loop-r-smaller c = omega arith

pub loop-r-preserved : goal.loop-r-preserved
loop-r-preserved c = (c.disturbed_by.ensures.1, c.disturbed_by.auto.w ∙ c.loop-r.invariant.1, passed_next (words c.args.t.now) (words c.args.d.now) c.args.g c.args.j c.loop-r.r c.disturbed_by.result (omega arith) c.disturbed_by.ensures.0 c.if-disturbed_by.false c.loop-r.invariant.2)

pub returns : goal.returns
returns c = (passed_all (words c.args.t.now) (words c.args.d.now) c.args.g c.args.j c.loop-r.r (omega arith) c.loop-r.invariant.2, c.loop-r.invariant.0)
