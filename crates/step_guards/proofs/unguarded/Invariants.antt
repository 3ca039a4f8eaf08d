use Prim.Native.Nat.{◌+◌, ◌-◌, ◌≤◌}
use Rattle.mem_words.specs.Words.{words}
use Rattle.step_guards.proofs.Resting.{NoOperator}
use Rattle.step_guards.proofs.unguarded.Given as goal

abbrev pub invariant-loop-j : goal.invariant-loop-j
invariant-loop-j l = (l.g ≤ l.j) × NoOperator (words l.t) l.g l.j
