use mathlib.Core.Path.{◌≡◌}
use Prim.Native.Nat.{◌-◌, ◌≤◌}
use lib.ListN.{length}
use Rattle.mem_words.specs.Words.{words}
use Rattle.mem_copies.specs.Runs.{copied}
use Rattle.rule_effects.specs.Effects.{frees}
use Rattle.rule_frees.proofs.put_frees.Given as goal

abbrev pub invariant-loop-j : goal.invariant-loop-j
invariant-loop-j l = (l.j ≤ l.n) × (length l.out ≡ length l.initial.out) × (length (words l.out) ≡ length (words l.initial.out)) × (words l.out ≡ copied (words l.initial.out) l.at (frees l.next.0 l.n) l.j)
