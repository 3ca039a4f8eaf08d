use mathlib.Core.Path.{◌≡◌}
use Prim.Native.Nat.{◌+◌, ◌-◌}
use lib.ListN.{length}
use Rattle.mem_numbers.specs.Numbers.{triples}
use Rattle.read_statements.proofs.Following.{Closing}
use Rattle.read_statements.proofs.follow.Given as goal

abbrev pub invariant-loop-h : goal.invariant-loop-h
invariant-loop-h l = (l.stack ≡ l.initial.stack) × Closing (triples l.codes) l.initial.stack l.at l.h l.i l.d

abbrev pub decreases-loop-h : goal.decreases-loop-h
decreases-loop-h l = length (triples l.codes) + 1 - l.i
