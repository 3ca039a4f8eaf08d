use mathlib.Core.Path.{◌≡◌}
use Prim.Native.Nat.{◌-◌}
use lib.ListN.{length}
use Rattle.mem_words.specs.Words.{words}
use Rattle.rule_solve.specs.Idle.{Idle}
use Rattle.step_unrest.proofs.Rounds.{Passed}
use Rattle.step_unrest.proofs.disturbed.Given as goal

abbrev pub invariant-loop-r : goal.invariant-loop-r
invariant-loop-r l = Idle l.w × (length l.w ≡ length l.initial.w) × Passed (words l.t) (words l.d) l.g l.j l.r

abbrev pub decreases-loop-r : goal.decreases-loop-r
decreases-loop-r l = 15 - l.r
