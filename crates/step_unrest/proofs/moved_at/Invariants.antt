use Prim.Native.Nat.{◌-◌}
use Rattle.mem_words.specs.Words.{words}
use Rattle.step_unrest.proofs.Rounds.{Unmoved}
use Rattle.step_unrest.proofs.moved_at.Given as goal

abbrev pub invariant-loop-r : goal.invariant-loop-r
invariant-loop-r l = Unmoved (words l.t) l.j l.r

abbrev pub decreases-loop-r : goal.decreases-loop-r
decreases-loop-r l = 15 - l.r
