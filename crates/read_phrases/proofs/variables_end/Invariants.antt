use Prim.Native.Nat.{◌-◌}
use lib.ListN.{length}
use Rattle.mem_numbers.specs.Numbers.{triples}
use Rattle.read_phrases.proofs.Reading.{Variables}
use Rattle.read_phrases.proofs.variables_end.Given as goal

abbrev pub invariant-loop-at : goal.invariant-loop-at
invariant-loop-at l = Variables (triples l.codes) l.at l.i l.m

abbrev pub decreases-loop-at : goal.decreases-loop-at
decreases-loop-at l = length (triples l.codes) - l.i
