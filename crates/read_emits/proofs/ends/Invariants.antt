use mathlib.Core.Path.{◌≡◌}
use Prim.Native.Nat.{◌+◌, ◌≤◌, ◌-◌}
use lib.ListN.{length}
use Rattle.mem_words.specs.Words.{words}
use Rattle.read_emits.specs.TheirContracts.{Ended}
use Rattle.read_emits.proofs.ends.Given as goal

abbrev pub invariant-loop-j : goal.invariant-loop-j
invariant-loop-j l = (l.j ≤ l.c) × (length l.out ≡ length l.initial.out) × Ended (words l.initial.out) l.k l.j (words l.out) (l.k + l.j)
