-- `read_names::child_of` meets its contract: what has the cell is further on in the chain. Assumes nothing.
use Prim.Native.Nat.{◌+◌, ◌*◌}
use native.Mathlib.Omega.{arith}
use Rattle.mem_numbers.specs.Numbers.{shorts, triples}
use Rattle.read_trie.specs.Grows.{ahead_start, ahead_next}
use Rattle.read_trie.specs.Outcome.{found, can_make}
use Rattle.read_trie.proofs.child_of.Goals as goal

pub overflow_mul-c : goal.overflow_mul-c
overflow_mul-c c = omega (arith, c.requires.inside, c.requires.trie.room.count)

pub overflow_add-c : goal.overflow_add-c
overflow_add-c c = omega (arith, c.requires.inside, c.requires.trie.room.count)

pub get-q-requires-clause-inside : goal.get-q-requires-clause-inside
get-q-requires-clause-inside c = omega (arith, c.requires.inside, c.requires.trie.room.heads)

pub loop-q-init : goal.loop-q-init
loop-q-init c = (ahead_start c.requires.trie c.args.p _ _ (omega arith) c.get-q.ensures.is, omega (arith, c.get-q.ensures.is, c.requires.trie.inside c.args.p c.requires.inside))

pub get-requires-clause-inside : goal.get-requires-clause-inside
get-requires-clause-inside c = omega (arith, c.requires.trie.room.cells)

pub returns-then-get-c : goal.returns-then-get-c
returns-then-get-c c = found c.requires (omega arith) (omega arith) (omega (arith, c.get.ensures.is))

pub get-q-requires-in-loop-q-clause-inside : goal.get-q-requires-in-loop-q-clause-inside
get-q-requires-in-loop-q-clause-inside c = omega (arith, c.requires.trie.room.nexts)

pub loop-q-smaller : goal.loop-q-smaller
loop-q-smaller c = omega (arith, c.get-q-in-loop-q.ensures.is, c.requires.trie.lower c.loop-q.q (omega arith) (omega arith))

pub loop-q-preserved : goal.loop-q-preserved
loop-q-preserved c = (ahead_next (triples c.args.cells.now) (shorts c.args.nexts.now) c.args.n (c.args.p * 256 + c.from.result) c.loop-q.q c.loop-q.invariant.0 (λ e. omega (arith, c.get.ensures.is)) _ c.get-q-in-loop-q.ensures.is, omega (arith, c.get-q-in-loop-q.ensures.is, c.requires.trie.lower c.loop-q.q (omega arith) (omega arith)))

pub make-requires : goal.make-requires
make-requires c = can_make c.requires c.loop-q.invariant.0 (omega arith) (omega arith) (omega (arith, c.requires.inside, c.requires.trie.room.count))

pub returns : goal.returns
returns c = rw c.from.ensures at c.make.ensures
