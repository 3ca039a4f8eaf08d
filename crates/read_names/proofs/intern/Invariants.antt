use mathlib.Core.Path.{◌≡◌}
use Prim.Native.Nat.{◌≤◌}
use lib.ListN.{length}
use Rattle.mem_numbers.specs.Numbers.{shorts, triples}
use Rattle.read_nodes.specs.Trie.{Kept}
use Rattle.read_names.specs.Interning.{Named}
use Rattle.read_names.proofs.intern.Given as goal

abbrev pub invariant-loop-i : goal.invariant-loop-i
invariant-loop-i l = (l.i ≤ l.len) × Named l.text l.at l.i (triples l.initial.cells) l.n (triples l.cells) (shorts l.heads) (shorts l.nexts) l.p l.m × Kept (triples l.initial.cells) (shorts l.initial.heads) (shorts l.initial.nexts) (triples l.cells) (shorts l.heads) (shorts l.nexts) × (length l.cells ≡ length l.initial.cells) × (length l.heads ≡ length l.initial.heads) × (length l.nexts ≡ length l.initial.nexts)
