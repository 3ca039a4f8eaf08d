use mathlib.Core.Path.{◌≡◌}
use Prim.Native.Nat.{◌+◌, ◌-◌}
use lib.ListN.{length}
use Rattle.mem_words.specs.Words.{words}
use Rattle.rule_clauses.specs.Going.{Going}
use Rattle.rule_clauses.proofs.append_clauses.Given as goal

abbrev pub invariant-loop-j : goal.invariant-loop-j
invariant-loop-j l = (l.c ≡ length (words l.ws)) × (length l.out ≡ length l.initial.out) × Going (words l.ws) l.from l.next (words l.initial.out) l.at l.j l.x l.k (words l.out)

abbrev pub decreases-loop-j : goal.decreases-loop-j
decreases-loop-j l = l.c + 1 - l.j
