-- By the rule's number. Assumes nothing.
use mathlib.Core.Path.{refl, ap}
use Prim.Native.Nat.{ℕ}
use lib.Dec.{ltb}
use Rattle.mem_words.specs.Words.{words}
use Rattle.step_decide.proofs.Conditions.{there_12, there_other}
use Rattle.step_decide.proofs.argument_fits.Goals as goal

pub returns-then-r-eq12 : goal.returns-then-r-eq12
returns-then-r-eq12 c = there_12 (words c.args.t.now) c.args.r c.args.a c.position-g.result _ c.if-r-eq12.true c.position-g.ensures.0 (ap (λ (x : ℕ). ltb c.position-g.result x) c.count.ensures.is)

pub returns : goal.returns
returns c = there_other (words c.args.t.now) c.args.r c.args.a _ c.if-r-eq12.false refl
