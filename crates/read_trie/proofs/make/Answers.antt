use native.Mathlib.Omega.{arith}
use Rattle.read_trie.specs.Outcome.{made}
use Rattle.read_trie.proofs.make.Goals as goal

pub returns : goal.returns
returns c = made c.requires (record { cells = omega arith; heads = omega arith; nexts = omega arith; count = omega arith }) c.get-first.ensures.is c.put.ensures c.put-2.ensures c.put-3.ensures c.put-4.ensures
