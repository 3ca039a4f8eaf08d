use mathlib.Core.Path.{◌≡◌}
use Prim.Native.Nat.{◌-◌, ◌≤◌}
use lib.ListN.{length}
use Rattle.mem_words.specs.Words.{words}
use Rattle.step_walk.specs.Calm.{Walks}
use Rattle.step_walk.proofs.walk.Given as goal

abbrev pub invariant-loop-j : goal.invariant-loop-j
invariant-loop-j l = (l.g ≤ l.j) × (l.j ≤ l.e) × Walks (words l.t) l.g l.environment.trail l.w l.j l.at.depth l.at.boxes l.at.mark.used l.at.mark.trail l.at.mark.applications × (length l.w ≡ length l.initial.w)

abbrev pub decreases-loop-j : goal.decreases-loop-j
decreases-loop-j l = l.e - l.j
