use Prim.Native.Nat.{◌-◌}
use Rattle.mem_words.specs.Words.{words}
use Rattle.store_parts.specs.declared.Among.TheVariants.{Others}
use Rattle.store_parts.specs.Counts.{Counted}
use Rattle.store_parts.proofs.parts.Given as goal

abbrev pub invariant-loop-i : goal.invariant-loop-i
invariant-loop-i l = Counted (words l.ws) Others 0 l.m l.r l.i

abbrev pub decreases-loop-i : goal.decreases-loop-i
decreases-loop-i l = l.n - l.i
