use mathlib.Core.Path.{◌≡◌}
use lib.ListN.{length}
use Prim.Native.Nat.{◌-◌, ◌≤◌}
use Rattle.rule_solve.specs.Idle.{Idle}
use Rattle.step_store.specs.Bounds.{AtMost}
use Rattle.step_store.specs.Pointed.{Pointed}
use Rattle.call_run.proofs.Answers.{Ran}
use Rattle.call_run.proofs.tried.Given as goal

abbrev pub invariant-loop-at : goal.invariant-loop-at
invariant-loop-at l = (length l.store ≡ length l.initial.store) × (length l.work ≡ length l.initial.work) × Idle l.work × Ran l.steps l.initial.store (length l.initial.work) l.at l.n l.store × AtMost l.store l.u × (l.u ≤ 2048) × Pointed l.store l.near

abbrev pub decreases-loop-at : goal.decreases-loop-at
decreases-loop-at l = length l.steps - l.at
