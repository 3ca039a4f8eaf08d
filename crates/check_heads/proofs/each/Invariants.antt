use Rattle.mem_words.specs.Words.{words}
use Rattle.check_heads.specs.Filling.{Filling, was_number, number_before}
use Rattle.check_heads.proofs.each.Given as goal

abbrev pub invariant-loop-i : goal.invariant-loop-i
invariant-loop-i l = Filling l.initial.w l.m (words l.b) l.w l.i l.c (was_number l.name) (number_before l.name)
