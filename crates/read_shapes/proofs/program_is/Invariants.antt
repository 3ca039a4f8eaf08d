use Prim.Native.Nat.{◌-◌}
use lib.ListN.{length}
use Rattle.mem_numbers.specs.Numbers.{triples}
use Rattle.read_grammar.proofs.Defining.{Defined}
use Rattle.read_shapes.proofs.program_is.Given as goal

abbrev pub invariant-loop-i : goal.invariant-loop-i
invariant-loop-i l = Defined (triples l.codes) (length l.initial.stack) l.stack l.i

abbrev pub decreases-loop-i : goal.decreases-loop-i
decreases-loop-i l = length (triples l.codes) - l.i
