use mathlib.Core.Path.{◌≡◌}
use Prim.Native.Nat.{◌+◌, ◌-◌, ◌<◌, ◌≤◌}
use lib.ListN.{drop}
use Rattle.mem_words.specs.Words.{words}
use Rattle.rule_words.specs.Scans.{upto}
use Rattle.rule_close.proofs.end_of.Given as goal

abbrev pub invariant-loop-j : goal.invariant-loop-j
invariant-loop-j l = (l.i < l.j) × (l.j ≤ l.n) × (l.d ≤ l.j) × (l.j + upto (drop l.j (words l.ws)) l.d ≡ l.i + 1 + upto (drop (l.i + 1) (words l.ws)) 0)
