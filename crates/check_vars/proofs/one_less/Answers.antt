-- The second test decides first. Assumes nothing.
use native.Mathlib.Omega.{arith}
use Prim.Native.Nat.{◌-◌}
use lib.Dec.{leb}
use borrow.Author.Tests.{le-leb, lt-leb}
use Rattle.check_shapes.specs.declared.Frame.TheVariants.{Args}
use Rattle.check_shapes.specs.declared.Move.TheVariants.{Stay}
use Rattle.check_shapes.specs.Moving.{both_yes, both_no}
use Rattle.check_vars.proofs.one_less.Goals as goal

pub returns-then-k-ge1 : goal.returns-then-k-ge1
returns-then-k-ge1 c = both_yes c.args.b (leb 1 c.args.k) _ _ (le-leb 1 c.args.k (omega arith)) c.when.ensures

pub returns : goal.returns
returns c = both_no c.args.b (leb 1 c.args.k) (Stay (Args c.args.n (c.args.k - 1))) (lt-leb 1 c.args.k (omega arith))
