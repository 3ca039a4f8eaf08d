-- The second test decides first. Assumes nothing.
use native.Mathlib.Omega.{arith}
use Prim.Native.Nat.{◌+◌}
use lib.Dec.{ltb}
use borrow.Author.Tests.{lt-ltb, le-ltb}
use Rattle.check_shapes.specs.declared.Frame.TheVariants.{CallArgs}
use Rattle.check_shapes.specs.declared.Move.TheVariants.{Stay}
use Rattle.check_shapes.specs.Moving.{both_yes, both_no}
use Rattle.check_vars.proofs.one_more.Goals as goal

pub returns-then-k-lt8 : goal.returns-then-k-lt8
returns-then-k-lt8 c = both_yes c.args.b (ltb c.args.k 8) _ _ (lt-ltb c.args.k 8 (omega arith)) c.when.ensures

pub returns : goal.returns
returns c = both_no c.args.b (ltb c.args.k 8) (Stay (CallArgs c.args.n c.args.p (c.args.k + 1))) (le-ltb c.args.k 8 (omega arith))
