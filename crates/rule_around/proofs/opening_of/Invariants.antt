use mathlib.Core.Path.{◌≡◌}
use Prim.Native.Nat.{◌+◌, ◌≤◌}
use Rattle.mem_words.specs.Words.{words}
use Rattle.rule_words.specs.Scans.{up}
use Rattle.rule_around.proofs.opening_of.Given as goal

abbrev pub invariant-loop-j : goal.invariant-loop-j
invariant-loop-j l = (l.j ≤ l.i) × (l.d + l.j ≤ l.i) × (up l.j (words l.ws) l.d ≡ up l.i (words l.ws) 0)
