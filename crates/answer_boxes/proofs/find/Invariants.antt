use mathlib.Core.Path.{◌≡◌}
use Prim.Native.Nat.{◌+◌, ◌-◌, ◌≤◌}
use lib.ListN.{length}
use Rattle.mem_words.specs.Words.{words}
use Rattle.rule_solve.specs.Idle.{Idle}
use Rattle.answer_boxes.proofs.Finding.{Finding}
use Rattle.answer_boxes.proofs.find.Given as goal

abbrev pub invariant-loop-j : goal.invariant-loop-j
invariant-loop-j l = Idle l.w × (length l.w ≡ length l.initial.w) × (1 ≤ l.k) × (l.j ≤ l.m + 1) × Finding (words l.t) l.n l.j l.k

abbrev pub decreases-loop-j : goal.decreases-loop-j
decreases-loop-j l = l.m + 1 - l.j
