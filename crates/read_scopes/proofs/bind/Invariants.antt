use mathlib.Core.Path.{◌≡◌}
use Prim.Native.Nat.{◌≤◌}
use lib.ListN.{length}
use Rattle.mem_numbers.specs.Numbers.{shorts, triples}
use Rattle.read_scopes.specs.Scopes.{Bindings}
use Rattle.read_scopes.proofs.bind.Given as goal

abbrev pub invariant-loop-j : goal.invariant-loop-j
invariant-loop-j l = (l.j ≤ l.count) × (length l.binds ≡ length l.initial.binds) × (length l.saves ≡ length l.initial.saves) × Bindings (triples l.codes) l.first l.j (shorts l.initial.binds) (shorts l.initial.saves) l.n l.level (shorts l.binds) (shorts l.saves) l.twice
