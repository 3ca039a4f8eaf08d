use mathlib.Core.Path.{◌≡◌}
use mathlib.Core.List.{map}
use Prim.Native.Nat.{◌-◌, ◌≤◌}
use lib.ListN.{length, drop}
use Rattle.mem_words.specs.Words.{words}
use Rattle.mem_copies.specs.Runs.{run, copied}
use Rattle.mem_copies.specs.Open.{open_word}
use Rattle.mem_opened.proofs.copy_opened.Given as goal

abbrev pub invariant-loop-i : goal.invariant-loop-i
invariant-loop-i l = (l.i ≤ l.n) × (length l.dst ≡ length l.initial.dst) × (length (words l.dst) ≡ length (words l.initial.dst)) × (words l.dst ≡ copied (words l.initial.dst) l.at (map (open_word (run l.v l.m (words l.vs))) (drop l.from (words l.src))) l.i)
