-- Up to the root, the last byte first. Assumes nothing.
use Prim.Native.Nat.{◌-◌}
use native.Mathlib.Omega.{arith}
use Rattle.answer_emit.proofs.Spelling.{spelling_all, spelling_some, spelling_more, spelling_end}
use Rattle.answer_emit.proofs.name_back.Goals as goal

pub loop-k-init : goal.loop-k-init
loop-k-init c = spelling_all c.requires.1 c.requires.2 c.requires.3

pub overflow_sub-j : goal.overflow_sub-j
overflow_sub-j c = omega (arith, (spelling_some c.requires.0 (omega arith) c.loop-k.invariant).0)

pub byte_of-requires : goal.byte_of-requires
byte_of-requires c = omega (arith, c.loop-k.invariant.node, c.requires.1)

pub overflow_add-out : goal.overflow_add-out
overflow_add-out c = omega (arith, (spelling_some c.requires.0 (omega arith) c.loop-k.invariant).1)

pub bounds-out-at : goal.bounds-out-at
bounds-out-at c = omega (arith, (spelling_some c.requires.0 (omega arith) c.loop-k.invariant).0, (spelling_some c.requires.0 (omega arith) c.loop-k.invariant).1)

pub parent_of-k-requires : goal.parent_of-k-requires
parent_of-k-requires c = c.loop-k.invariant.node

pub loop-k-smaller : goal.loop-k-smaller
loop-k-smaller c = omega (arith, c.parent_of-k.ensures, c.requires.0 c.loop-k.k (omega arith) c.loop-k.invariant.node)

pub loop-k-preserved : goal.loop-k-preserved
loop-k-preserved c = spelling_more (c.loop-k.j - 1) c.requires.0 (omega arith) c.loop-k.invariant (omega (arith, (spelling_some c.requires.0 (omega arith) c.loop-k.invariant).0)) c.byte_of.ensures c.parent_of-k.ensures

pub returns : goal.returns
returns c = spelling_end c.loop-k.invariant (omega arith)
