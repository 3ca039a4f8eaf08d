use mathlib.Core.Path.{◌≡◌}
use Prim.Native.Nat.{◌+◌, ◌-◌, ◌≤◌}
use lib.ListN.{length}
use Rattle.mem_words.specs.Words.{words}
use Rattle.rule_bodies.specs.Search.{left}
use Rattle.rule_bodies.proofs.search.Given as goal

abbrev pub invariant-loop-j : goal.invariant-loop-j
invariant-loop-j l = (l.c ≡ length (words l.ps)) × (l.j ≤ l.c + 1) × (left (words l.ps) l.j l.p l.n ≡ left (words l.ps) 0 l.p l.n)

abbrev pub decreases-loop-j : goal.decreases-loop-j
decreases-loop-j l = l.c + 1 - l.j
