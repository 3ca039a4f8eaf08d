use mathlib.Core.Path.{◌≡◌}
use Prim.Native.Nat.{◌+◌, ◌-◌, ◌≤◌}
use lib.ListN.{drop}
use Rattle.mem_words.specs.Words.{words}
use Rattle.store_words.specs.Contexts.{place_at}
use Rattle.rule_places.proofs.front.Given as goal

abbrev pub invariant-loop-i : goal.invariant-loop-i
invariant-loop-i l = (l.i ≤ l.n) × (l.i + place_at (drop l.i (words l.ws)) l.left ≡ l.at + place_at (drop l.at (words l.ws)) l.p)

abbrev pub decreases-loop-i : goal.decreases-loop-i
decreases-loop-i l = l.n - l.i
