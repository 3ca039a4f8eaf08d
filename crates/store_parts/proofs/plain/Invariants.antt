use Prim.Native.Nat.{◌-◌, ◌≤◌}
use Rattle.mem_tallies.specs.Tallies.{Tallied}
use Rattle.store_parts.specs.declared.Among.TheVariants.{Others}
use Rattle.store_parts.specs.Counting.{word_parts}
use Rattle.store_parts.specs.Pieces.{odd_one}
use Rattle.store_parts.proofs.plain.Given as goal

abbrev pub invariant-loop-k : goal.invariant-loop-k
invariant-loop-k l = (l.k ≤ 48) × Tallied (word_parts Others) l.ws l.i l.k l.s × Tallied odd_one l.ws l.i l.k l.q
