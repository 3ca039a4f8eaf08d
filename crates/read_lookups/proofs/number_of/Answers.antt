-- `read_scopes::number_of` meets its contract: the number is not among those passed. Assumes nothing.
use native.Mathlib.Omega.{arith}
use Rattle.mem_numbers.specs.Numbers.{shorts}
use Rattle.read_lookups.specs.Finding.{not_yet}
use Rattle.read_lookups.proofs.number_of.Goals as goal

pub loop-i-init : goal.loop-i-init
loop-i-init c = (omega arith, λ j l e. omega arith)

pub returns-then-get-id : goal.returns-then-get-id
returns-then-get-id c = record { inside = omega arith; is = omega (arith, c.get.ensures.is); earlier = c.loop-i.invariant.1 }

pub loop-i-preserved : goal.loop-i-preserved
loop-i-preserved c = (omega arith, not_yet (shorts c.args.order.now) c.args.id c.loop-i.i c.loop-i.invariant.1 (λ e. omega (arith, c.get.ensures.is)))

pub returns : goal.returns
returns c = λ j l e. c.loop-i.invariant.1 j (omega arith) e
