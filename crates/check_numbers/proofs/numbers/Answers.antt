-- The answer is that of the words that are left. Assumes nothing.
use mathlib.Core.Path.{◌∙◌, sym}
use native.Mathlib.Omega.{arith}
use Rattle.mem_words.specs.Words.{words}
use Rattle.check_numbers.specs.Steps.{too_many, begins, goes, refuses, ends}
use Rattle.check_numbers.proofs.numbers.Goals as goal

pub returns-then-q-next : goal.returns-then-q-next
returns-then-q-next c = too_many c.args.q c.args.next (words c.args.ws.now) (omega arith)

pub count-n-requires : goal.count-n-requires
count-n-requires c = tt

pub loop-i-init : goal.loop-i-init
loop-i-init c = (omega arith, begins c.args.q c.args.next (words c.args.ws.now) (omega arith))

pub get-w-requires : goal.get-w-requires
get-w-requires c = omega (arith, c.count-n.ensures.is)

pub below-requires : goal.below-requires
below-requires c = tt

pub returns-then-not-below : goal.returns-then-not-below
returns-then-not-below c = refuses (omega (arith, c.count-n.ensures.is)) c.loop-i.invariant.1 c.get-w.ensures (sym c.below.ensures ∙ c.if-not-below.true)

pub loop-i-preserved : goal.loop-i-preserved
loop-i-preserved c = (omega arith, goes (omega (arith, c.count-n.ensures.is)) c.loop-i.invariant.1 c.get-w.ensures (sym c.below.ensures ∙ c.if-not-below.false))

pub returns : goal.returns
returns c = ends (omega (arith, c.count-n.ensures.is)) c.loop-i.invariant.1
