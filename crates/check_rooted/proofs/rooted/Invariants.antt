use Prim.Native.Nat.{◌≤◌}
use Rattle.mem_numbers.specs.Numbers.{triples}
use Rattle.read_nodes.specs.Spell.{Lower}
use Rattle.check_rooted.proofs.rooted.Given as goal

abbrev pub invariant-loop-i : goal.invariant-loop-i
invariant-loop-i l = (1 ≤ l.i) × (l.i ≤ l.n) × Lower (triples l.cells) l.i
