-- What is left to be compared: the name of node k with the first j bytes of the word. Assumes nothing.
use mathlib.Core.Path.{refl}
use Prim.Native.Nat.{◌-◌}
use native.Mathlib.Omega.{arith}
use Rattle.check_spelled.proofs.Comparing.{comparing_all, comparing_more, comparing_other, comparing_short, comparing_end}
use Rattle.check_spelled.proofs.spelled.Goals as goal

pub loop-j-init : goal.loop-j-init
loop-j-init c = comparing_all c.requires.1 refl

pub returns-then-k-eq0 : goal.returns-then-k-eq0
returns-then-k-eq0 c = comparing_short c.loop-j.invariant c.if-k-eq0.true (omega arith)

pub returns-then-byte_of-word : goal.returns-then-byte_of-word
returns-then-byte_of-word c = comparing_other (c.loop-j.j - 1) c.requires.0 (omega arith) c.loop-j.invariant (omega arith) c.byte_of.ensures c.if-byte_of-word.true

pub loop-j-preserved : goal.loop-j-preserved
loop-j-preserved c = comparing_more (c.loop-j.j - 1) c.requires.0 (omega arith) c.loop-j.invariant (omega arith) c.byte_of.ensures c.parent_of-k.ensures c.if-byte_of-word.false

pub returns : goal.returns
returns c = comparing_end c.requires.0 c.loop-j.invariant (omega arith)
