use Prim.Native.Nat.{◌<◌}
use Rattle.mem_numbers.specs.Numbers.{shorts, triples}
use Rattle.read_trie.specs.Grows.{Ahead}
use Rattle.read_trie.proofs.child_of.Given as goal

abbrev pub invariant-loop-q : goal.invariant-loop-q
invariant-loop-q l = Ahead (triples l.cells) (shorts l.nexts) l.n l.c l.q × (l.q < l.n)

abbrev pub decreases-loop-q : goal.decreases-loop-q
decreases-loop-q l = l.q
