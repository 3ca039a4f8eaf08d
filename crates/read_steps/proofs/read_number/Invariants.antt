use Rattle.read_steps.specs.Numbers.{Digits}
use Rattle.read_steps.proofs.read_number.Given as goal

abbrev pub invariant-loop-i : goal.invariant-loop-i
invariant-loop-i l = Digits l.s l.from l.i l.n
