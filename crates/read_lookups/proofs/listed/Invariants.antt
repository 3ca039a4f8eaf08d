use mathlib.Core.Path.{◌≡◌}
use mathlib.Core.Bool.{false}
use Prim.Native.Nat.{◌≤◌}
use lib.ListN.{take}
use Rattle.mem_numbers.specs.Numbers.{triples}
use Rattle.read_lookups.specs.Places.{among}
use Rattle.read_lookups.proofs.listed.Given as goal

abbrev pub invariant-loop-m : goal.invariant-loop-m
invariant-loop-m l = (l.m ≤ l.k) × (among l.head (take l.m (triples l.heads)) ≡ false)
