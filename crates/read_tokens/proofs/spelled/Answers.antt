-- `read_tokens::spelled` meets its contract: by the length. Assumes nothing.
use Prim.Native.Nat.{◌-◌}
use native.Mathlib.Omega.{arith}
use borrow.Author.Tests.{le-leb, lt-leb}
use Rattle.read_tokens.proofs.spelled.Goals as goal

pub returns-then-len-le32 : goal.returns-then-len-le32
returns-then-len-le32 c = simp (le-leb (c.args.end - c.args.at) 32 (omega arith))

pub returns-else-len-le32 : goal.returns-else-len-le32
returns-else-len-le32 c = simp (lt-leb (c.args.end - c.args.at) 32 (omega arith))
