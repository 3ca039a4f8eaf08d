-- The second test decides first. Assumes nothing.
use Prim.Native.Nat.{◌+◌}
use native.Mathlib.Omega.{arith}
use lib.Dec.{leb, ltb}
use borrow.Author.Tests.{lt-ltb, le-ltb}
use Rattle.check_shapes.specs.declared.Frame.TheVariants.{One}
use Rattle.check_shapes.specs.declared.Move.TheVariants.{Stay}
use Rattle.check_shapes.specs.Moving.{both_yes, both_no}
use Rattle.check_moves.proofs.hidden.Goals as goal

pub returns-then-l-lt4194304 : goal.returns-then-l-lt4194304
returns-then-l-lt4194304 c = both_yes (leb 1 c.args.v) (ltb (c.args.n + c.args.v) 4194304) _ _ (lt-ltb (c.args.n + c.args.v) 4194304 (omega arith)) c.when.ensures

pub returns : goal.returns
returns c = both_no (leb 1 c.args.v) (ltb (c.args.n + c.args.v) 4194304) (Stay (One (c.args.n + c.args.v) c.args.d)) (le-ltb (c.args.n + c.args.v) 4194304 (omega arith))
