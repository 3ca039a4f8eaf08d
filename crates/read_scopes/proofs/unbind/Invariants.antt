use mathlib.Core.Path.{◌≡◌}
use Prim.Native.Nat.{◌≤◌}
use lib.ListN.{length}
use Rattle.mem_numbers.specs.Numbers.{shorts, triples}
use Rattle.read_scopes.specs.Scopes.{taken_back}
use Rattle.read_scopes.proofs.unbind.Given as goal

abbrev pub invariant-loop-j : goal.invariant-loop-j
invariant-loop-j l = (l.j ≤ l.count) × (length l.binds ≡ length l.initial.binds) × (length (shorts l.binds) ≡ length (shorts l.initial.binds)) × (taken_back (triples l.codes) l.first l.j (shorts l.binds) (shorts l.saves) l.n ≡ taken_back (triples l.codes) l.first l.count (shorts l.initial.binds) (shorts l.saves) l.n)
