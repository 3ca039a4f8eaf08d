use mathlib.Core.Path.{◌≡◌}
use Prim.Native.Nat.{◌≤◌, ◌-◌}
use lib.ListN.{length}
use Rattle.mem_words.specs.Words.{words}
use Rattle.read_emits.specs.TheirContracts.{Compacted}
use Rattle.read_compact.proofs.compact.Given as goal

abbrev pub invariant-loop-i : goal.invariant-loop-i
invariant-loop-i l = (l.i ≤ l.n) × (length l.out ≡ length l.initial.out) × Compacted (words l.initial.out) l.i (words l.out) l.r
