use mathlib.Core.Path.{◌≡◌}
use Prim.Native.Nat.{◌-◌}
use lib.ListN.{length}
use Rattle.mem_numbers.specs.Numbers.{shorts, triples}
use Rattle.read_lexed.specs.Table.{Sofar}
use Rattle.read_tokenise.proofs.tokenise.Given as goal

abbrev pub invariant-loop-kind : goal.invariant-loop-kind
invariant-loop-kind l = Sofar l.text (triples l.initial.codes) (triples l.initial.cells) (shorts l.initial.heads) (shorts l.initial.nexts) l.n (triples l.codes) (triples l.cells) (shorts l.heads) (shorts l.nexts) l.at l.k l.m × (length l.codes ≡ length l.initial.codes) × (length l.cells ≡ length l.initial.cells) × (length l.heads ≡ length l.initial.heads) × (length l.nexts ≡ length l.initial.nexts)

abbrev pub decreases-loop-kind : goal.decreases-loop-kind
decreases-loop-kind l = length l.text - l.at
