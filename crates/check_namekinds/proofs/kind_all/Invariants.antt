use Rattle.mem_numbers.specs.Numbers.{triples}
use Rattle.check_namekinds.proofs.Kinding.{Kinding}
use Rattle.check_namekinds.proofs.kind_all.Given as goal

abbrev pub invariant-loop-i : goal.invariant-loop-i
invariant-loop-i l = Kinding (triples l.cells) l.initial.w l.n l.w l.i
