use Prim.Native.Nat.{◌-◌}
use lib.ListN.{length}
use Rattle.read_steps.specs.Lines.{Sofar}
use Rattle.read_lines.proofs.check.Given as goal

abbrev pub invariant-loop-at : goal.invariant-loop-at
invariant-loop-at l = Sofar l.s l.at l.n

abbrev pub decreases-loop-at : goal.decreases-loop-at
decreases-loop-at l = length l.s - l.at
