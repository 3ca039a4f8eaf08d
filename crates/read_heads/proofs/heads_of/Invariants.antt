use mathlib.Core.Path.{◌≡◌}
use Prim.Native.Nat.{◌-◌}
use lib.ListN.{length}
use Rattle.mem_numbers.specs.Numbers.{triples}
use Rattle.read_heads.proofs.Heading.{Going}
use Rattle.read_heads.proofs.heads_of.Given as goal

abbrev pub invariant-loop-i : goal.invariant-loop-i
invariant-loop-i l = Going (triples l.codes) l.initial.stack (triples l.initial.heads) l.stack (triples l.heads) l.i l.k l.twice × (length l.heads ≡ length l.initial.heads)

abbrev pub decreases-loop-i : goal.decreases-loop-i
decreases-loop-i l = length (triples l.codes) - l.i
