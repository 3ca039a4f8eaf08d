use Rattle.mem_numbers.specs.Numbers.{triples}
use Rattle.check_links.proofs.Linking.{Linking}
use Rattle.check_links.proofs.link_all.Given as goal

abbrev pub invariant-loop-i : goal.invariant-loop-i
invariant-loop-i l = Linking (triples l.cells) l.initial.w l.n l.w l.i
