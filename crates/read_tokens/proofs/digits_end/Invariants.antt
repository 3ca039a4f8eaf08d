use Rattle.akl.specs.Token.{digit_class}
use Rattle.read_tokens.specs.Runs.{Runs}
use Rattle.read_tokens.proofs.digits_end.Given as goal

abbrev pub invariant-loop-i : goal.invariant-loop-i
invariant-loop-i l = Runs digit_class l.s l.at l.i
