-- Up to the root, a byte for each node. Assumes nothing.
use native.Mathlib.Omega.{arith}
use Rattle.answer_emit.proofs.Spelling.{counting_all, counting_more, counting_end}
use Rattle.answer_emit.proofs.name_length.Goals as goal

pub loop-k-init : goal.loop-k-init
loop-k-init c = counting_all c.requires.1

pub parent_of-k-requires : goal.parent_of-k-requires
parent_of-k-requires c = c.loop-k.invariant.node

pub overflow_add-c : goal.overflow_add-c
overflow_add-c c = omega (arith, c.loop-k.invariant.small)

pub loop-k-smaller : goal.loop-k-smaller
loop-k-smaller c = omega (arith, c.parent_of-k.ensures, c.requires.0 c.loop-k.k (omega arith) c.loop-k.invariant.node)

pub loop-k-preserved : goal.loop-k-preserved
loop-k-preserved c = counting_more c.requires.0 (omega arith) c.loop-k.invariant c.parent_of-k.ensures

pub returns : goal.returns
returns c = counting_end c.loop-k.invariant (omega arith)
