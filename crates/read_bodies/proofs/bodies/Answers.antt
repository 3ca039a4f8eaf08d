use mathlib.Core.Path.{refl, ◌∙◌}
use native.Mathlib.Omega.{arith}
use Rattle.read_pieces.specs.declared.Read.TheVariants.{Done, Three, Odd, Full}
use Rattle.read_definitions.proofs.Looping.{going_start, going_can, going_full, going_odd, going_three, going_less, going_more, going_all, defines}
use Rattle.read_bodies.proofs.bodies.Goals as goal

pub loop-i-init : goal.loop-i-init
loop-i-init c = (going_start _ _ _ _ _ _, refl, refl, refl, refl)

pub definition-d-requires : goal.definition-d-requires
definition-d-requires c = going_can c.loop-i.invariant.0 c.requires

pub loop-i-smaller : goal.loop-i-smaller
loop-i-smaller c = going_less c.loop-i.invariant.0 (defines c.definition-d.ensures (Done c.in-Done.at c.in-Done.o c.in-Done._known c.in-Done.fault) c.in-Done.is)

pub loop-i-preserved : goal.loop-i-preserved
loop-i-preserved c = (going_more c.loop-i.invariant.0 (defines c.definition-d.ensures (Done c.in-Done.at c.in-Done.o c.in-Done._known c.in-Done.fault) c.in-Done.is) c.lower-f.result c.lower-f.ensures, c.definition-d.auto.out ∙ c.loop-i.invariant.1, c.definition-d.auto.binds ∙ c.loop-i.invariant.2, c.definition-d.auto.saves ∙ c.loop-i.invariant.3, c.definition-d.auto.order ∙ c.loop-i.invariant.4)

pub returns-in-Three : goal.returns-in-Three
returns-in-Three c = going_three c.loop-i.invariant.0 (omega (arith, c.count-n.ensures.is)) (defines c.definition-d.ensures Three c.in-Three.is)

pub returns-in-Odd : goal.returns-in-Odd
returns-in-Odd c = going_odd c.loop-i.invariant.0 (omega (arith, c.count-n.ensures.is)) (defines c.definition-d.ensures Odd c.in-Odd.is)

pub returns-in-Full : goal.returns-in-Full
returns-in-Full c = going_full c.loop-i.invariant.0 (defines c.definition-d.ensures Full c.in-Full.is)

pub returns : goal.returns
returns c = going_all c.loop-i.invariant.0 (omega (arith, c.count-n.ensures.is))
