use Prim.Native.Nat.{◌-◌}
use lib.ListN.{length}
use Rattle.read_tokens.specs.Next.{Passed}
use Rattle.read_tokens.proofs.Cursor.next.Given as goal

abbrev pub invariant-loop-at : goal.invariant-loop-at
invariant-loop-at l = Passed l.s l.initial.at l.at

abbrev pub decreases-loop-at : goal.decreases-loop-at
decreases-loop-at l = length l.s - l.at
