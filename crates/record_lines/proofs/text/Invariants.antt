use mathlib.Core.Path.{◌≡◌}
use mathlib.Core.Bool.{true}
use Prim.Native.Nat.{◌≤◌}
use lib.ListN.{length, take}
use Rattle.answer_emit.specs.Put.{Put}
use Rattle.record_lines.proofs.text.Given as goal

abbrev pub invariant-loop-i : goal.invariant-loop-i
invariant-loop-i l = (l.i ≤ length l.piece) × (length l.out ≡ length l.initial.out) × Put (take l.i l.piece) true l.initial.out l.at l.out l.end
