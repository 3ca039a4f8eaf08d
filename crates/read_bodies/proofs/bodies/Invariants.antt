use mathlib.Core.Path.{◌≡◌}
use Prim.Native.Nat.{◌-◌}
use lib.ListN.{length}
use Rattle.mem_numbers.specs.Numbers.{triples, shorts}
use Rattle.mem_words.specs.Words.{words}
use Rattle.read_definitions.proofs.Looping.{Going}
use Rattle.read_bodies.proofs.bodies.Given as goal

abbrev pub invariant-loop-i : goal.invariant-loop-i
invariant-loop-i l = Going (triples l.codes) (shorts l.initial.binds) (shorts l.initial.saves) (shorts l.initial.order) (triples l.heads) (words l.initial.out) (shorts l.binds) (shorts l.saves) (shorts l.order) (words l.out) l.i l.k l.f × (length l.out ≡ length l.initial.out) × (length l.binds ≡ length l.initial.binds) × (length l.saves ≡ length l.initial.saves) × (length l.order ≡ length l.initial.order)

abbrev pub decreases-loop-i : goal.decreases-loop-i
decreases-loop-i l = length (triples l.codes) - l.i
