-- The words up to i are counted. Assumes nothing.
use native.Mathlib.Omega.{arith}
use Rattle.mem_words.specs.Words.{words}
use Rattle.store_parts.specs.declared.Among.TheVariants.{Others}
use Rattle.store_parts.specs.Counts.{counted_none, counted_on, counted_all}
use Rattle.store_parts.proofs.parts.Goals as goal

pub loop-i-init : goal.loop-i-init
loop-i-init c = counted_none (words c.args.ws.now) Others 0 (omega arith)

pub overflow_sub-n : goal.overflow_sub-n
overflow_sub-n c = omega (arith, c.loop-i.invariant.within, c.count-n.ensures.is)

pub sixteen-c-requires : goal.sixteen-c-requires
sixteen-c-requires c = (record { inside = omega (arith, c.count-n.ensures.is); marks = c.first_bytes-marks.ensures }, c.requires)

pub overflow_add-i : goal.overflow_add-i
overflow_add-i c = omega (arith, c.count-n.ensures.small)

pub overflow_add-r : goal.overflow_add-r
overflow_add-r c = omega (arith, c.loop-i.invariant.small, c.sixteen-c.ensures.counted.small, c.loop-i.invariant.within, c.sixteen-c.ensures.counted.within, c.requires)

pub loop-i-smaller : goal.loop-i-smaller
loop-i-smaller c = omega arith

pub loop-i-preserved : goal.loop-i-preserved
loop-i-preserved c = counted_on c.loop-i.invariant c.sixteen-c.ensures.counted

pub run-d-requires : goal.run-d-requires
run-d-requires c = record { from = omega (arith, c.loop-i.invariant.within, c.count-n.ensures.is); within = omega (arith, c.count-n.ensures.is); few = c.requires }

pub overflow_add-result : goal.overflow_add-result
overflow_add-result c = omega (arith, c.loop-i.invariant.small, c.run-d.ensures.counted.small, c.requires, c.count-n.ensures.is)

pub returns : goal.returns
returns c =
    let d = counted_on c.loop-i.invariant c.run-d.ensures.counted in
    (counted_all (words c.args.ws.now) _ _ _ (omega (arith, c.count-n.ensures.is)) d, omega (arith, d.small, c.count-n.ensures.is))
