use mathlib.Core.Path.{◌≡◌}
use Prim.Native.Nat.{◌+◌, ◌-◌, ◌≤◌}
use lib.ListN.{drop}
use Rattle.mem_words.specs.Words.{words}
use Rattle.store_words.specs.Contexts.{place_at}
use Rattle.rule_places.proofs.position_from.Given as goal

abbrev pub invariant-loop-i : goal.invariant-loop-i
invariant-loop-i l = (l.i ≤ l.n) × (l.i + place_at (drop l.i (words l.ws)) l.left ≡ l.initial.i + place_at (drop l.initial.i (words l.ws)) l.initial.left)
