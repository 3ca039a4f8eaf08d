use mathlib.Core.Path.{◌≡◌}
use Prim.Native.Nat.{◌+◌, ◌-◌, ◌≤◌}
use lib.ListN.{length}
use Rattle.mem_words.specs.Words.{words}
use Rattle.rule_hidden.specs.Counting.{Counting}
use Rattle.rule_hidden.proofs.hidden_in.Given as goal

abbrev pub invariant-loop-j : goal.invariant-loop-j
invariant-loop-j l = (l.c ≡ length (words l.ws)) × (l.t ≤ 131072) × Counting (words l.ws) l.from l.j l.t

abbrev pub decreases-loop-j : goal.decreases-loop-j
decreases-loop-j l = l.c + 1 - l.j
