use Prim.Native.Nat.{◌≤◌}
use Rattle.mem_words.specs.Words.{words}
use Rattle.check_numbers.specs.Steps.{Left}
use Rattle.check_numbers.proofs.numbers.Given as goal

abbrev pub invariant-loop-i : goal.invariant-loop-i
invariant-loop-i l = (l.i ≤ l.n) × Left l.q l.next (words l.ws) l.i
