use Prim.Native.Nat.{◌≤◌}
use lib.ListN.{drop}
use Rattle.constraint.specs.Solve.{elem}
use Rattle.mem_words.specs.Words.{words}
use Rattle.check_words.specs.Frees.{frees}
use Rattle.check_query.specs.Steps.{Trying}
use Rattle.check_query.proofs.holds_all.Given as goal

abbrev pub invariant-loop-x : goal.invariant-loop-x
invariant-loop-x l = (l.x ≤ l.q) × Trying (λ y. elem y (frees (drop l.i (words l.ws)))) l.q l.x
