-- The nodes below i have their parents below them. Assumes nothing.
use mathlib.Core.Path.{sym, ◌∙◌}
use native.Mathlib.Omega.{arith}
use Rattle.mem_numbers.specs.Numbers.{triples}
use Rattle.check_rooted.proofs.Lower.{lower_more, lower_all}
use Rattle.check_rooted.proofs.rooted.Goals as goal

pub get-requires-clause-inside : goal.get-requires-clause-inside
get-requires-clause-inside c = c.requires

pub returns-then-get-ne0 : goal.returns-then-get-ne0
returns-then-get-ne0 c = λ h. c.if-get-ne0.true (c.get.ensures.is ∙ h.root)

pub loop-i-init : goal.loop-i-init
loop-i-init c = (omega arith, omega (arith, c.count-n.ensures.is, c.requires), λ j a b. absurd (omega arith))

pub parent_of-requires : goal.parent_of-requires
parent_of-requires c = omega (arith, c.count-n.ensures.is)

pub returns-then-parent_of-i : goal.returns-then-parent_of-i
returns-then-parent_of-i c = λ h. let z = h.lower c.loop-i.i (omega (arith, c.loop-i.invariant.0)) (omega (arith, c.count-n.ensures.is)) in omega (arith, c.parent_of.ensures, z)

pub loop-i-preserved : goal.loop-i-preserved
loop-i-preserved c = (omega arith, omega arith, lower_more (triples c.args.cells.now) c.loop-i.i c.parent_of.result c.loop-i.invariant.2 c.parent_of.ensures (omega arith))

pub returns : goal.returns
returns c = record { root = sym c.get.ensures.is ∙ c.if-get-ne0.false; lower = lower_all (triples c.args.cells.now) c.loop-i.i (omega (arith, c.count-n.ensures.is)) c.loop-i.invariant.2 }
