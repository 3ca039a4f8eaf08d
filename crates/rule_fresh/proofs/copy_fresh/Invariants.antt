use mathlib.Core.Path.{◌≡◌}
use mathlib.Core.List.{map}
use Prim.Native.Nat.{◌-◌, ◌≤◌}
use lib.ListN.{length, drop}
use Rattle.mem_words.specs.Words.{words}
use Rattle.mem_copies.specs.Runs.{copied}
use Rattle.mem_copies.specs.Open.{open_word}
use Rattle.rule_effects.specs.Effects.{frees}
use Rattle.rule_fresh.proofs.copy_fresh.Given as goal

abbrev pub invariant-loop-j : goal.invariant-loop-j
invariant-loop-j l = (l.j ≤ l.m) × (length l.out ≡ length l.initial.out) × (length (words l.out) ≡ length (words l.initial.out)) × (words l.out ≡ copied (words l.initial.out) l.at (map (open_word (frees l.next.0 l.n)) (drop l.s (words l.ws))) l.j)
