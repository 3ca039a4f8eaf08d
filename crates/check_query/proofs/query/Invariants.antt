use Prim.Native.Nat.{◌≤◌}
use Rattle.mem_words.specs.Words.{words}
use Rattle.check_query.specs.Steps.{Left}
use Rattle.check_query.proofs.query.Given as goal

abbrev pub invariant-loop-i : goal.invariant-loop-i
invariant-loop-i l = (l.i ≤ l.n) × (l.d ≤ l.i) × Left l.q (words l.ws) l.l l.d l.i
