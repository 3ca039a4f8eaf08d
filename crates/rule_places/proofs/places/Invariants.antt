use Prim.Native.Nat.{◌-◌, ◌≤◌}
use Rattle.mem_tallies.specs.Tallies.{Tallied}
use Rattle.rule_places.specs.Pieces.{place_one}
use Rattle.rule_places.proofs.places.Given as goal

abbrev pub invariant-loop-k : goal.invariant-loop-k
invariant-loop-k l = (l.k ≤ 48) × Tallied place_one l.ws l.i l.k l.s
