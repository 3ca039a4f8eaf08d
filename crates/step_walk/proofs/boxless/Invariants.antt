use Prim.Native.Nat.{◌+◌, ◌-◌, ◌≤◌}
use Rattle.mem_words.specs.Words.{words}
use Rattle.step_walk.proofs.Answers.{Searched}
use Rattle.step_walk.proofs.boxless.Given as goal

abbrev pub invariant-loop-j : goal.invariant-loop-j
invariant-loop-j l = (l.g ≤ l.j) × Searched (words l.t) l.g l.j
