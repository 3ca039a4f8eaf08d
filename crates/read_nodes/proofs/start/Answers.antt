-- `read_names::start` meets its contract: the root has no child. Assumes nothing.
use mathlib.Core.Path.{refl}
use native.Mathlib.Omega.{arith}
use Rattle.read_nodes.specs.Starting.{trie_start}
use Rattle.read_nodes.proofs.start.Goals as goal

pub returns : goal.returns
returns c = (record { cells = refl; heads = c.put.ensures.long; nexts = refl }, trie_start (record { cells = omega arith; heads = omega arith; nexts = omega arith; count = omega arith }) c.put.ensures)
