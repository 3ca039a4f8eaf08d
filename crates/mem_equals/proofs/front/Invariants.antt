use mathlib.Core.Path.{◌≡◌}
use Prim.Native.Nat.{◌*◌}
use Rattle.mem_copies.specs.Runs.{run}
use Rattle.mem_equals.proofs.front.Given as goal

abbrev pub invariant-loop-p : goal.invariant-loop-p
invariant-loop-p l = run l.i (32 * l.p) l.a ≡ run l.j (32 * l.p) l.b
