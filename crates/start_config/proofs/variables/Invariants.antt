use mathlib.Core.Path.{◌≡◌}
use Prim.Native.Nat.{◌+◌, ◌-◌, ◌≤◌}
use lib.ListN.{length}
use Rattle.mem_words.specs.Words.{words}
use Rattle.start_config.specs.Grown.{Grown, frees}
use Rattle.start_config.proofs.variables.Given as goal

abbrev pub invariant-loop-i : goal.invariant-loop-i
invariant-loop-i l = (l.i ≤ l.v) × (length l.out ≡ length l.initial.out) × Grown (words l.initial.out) l.k (frees l.i) (words l.out) (l.k + l.i)
