-- The place is as far from where the search stands. Assumes nothing.
use mathlib.Core.Path.{refl}
use native.Mathlib.Omega.{arith}
use Rattle.rule_places.specs.Pieces.{ahead_more}
use Rattle.rule_places.proofs.front.Goals as goal

pub loop-i-init : goal.loop-i-init
loop-i-init c = (omega (arith, c.requires), refl)

pub overflow_sub-n : goal.overflow_sub-n
overflow_sub-n c = c.loop-i.invariant.0

pub places-s-requires : goal.places-s-requires
places-s-requires c = record { inside = omega arith; marks = c.first_bytes-m.ensures }

pub returns-then-left-s : goal.returns-then-left-s
returns-then-left-s c = record { within = omega arith; same = c.loop-i.invariant.1 }

pub overflow_add-i : goal.overflow_add-i
overflow_add-i c = omega arith

pub loop-i-smaller : goal.loop-i-smaller
loop-i-smaller c = omega arith

pub loop-i-preserved : goal.loop-i-preserved
loop-i-preserved c = (omega arith, omega (arith, c.loop-i.invariant.1, ahead_more c.args.ws.now c.loop-i.i c.loop-i.left _ c.places-s.result (omega arith) c.places-s.ensures (omega arith) refl))

pub returns : goal.returns
returns c = record { within = omega arith; same = c.loop-i.invariant.1 }
