use mathlib.Core.Path.{◌≡◌}
use Prim.Native.Nat.{◌+◌, ◌-◌}
use lib.ListN.{length}
use Rattle.mem_words.specs.Words.{words}
use Rattle.rule_solve.specs.Idle.{Idle}
use Rattle.answer_boxes.proofs.Members.{Members}
use Rattle.answer_boxes.proofs.state.Given as goal

abbrev pub invariant-loop-j : goal.invariant-loop-j
invariant-loop-j l = Idle l.w × (length l.w ≡ length l.initial.w) × Members (words l.t) l.j

abbrev pub decreases-loop-j : goal.decreases-loop-j
decreases-loop-j l = l.n + 1 - l.j
