use mathlib.Core.Path.{◌≡◌}
use Prim.Native.Nat.{◌≤◌, ◌-◌}
use lib.ListN.{length}
use Rattle.mem_numbers.specs.Numbers.{shorts, triples}
use Rattle.mem_words.specs.Words.{words}
use Rattle.read_lookups.specs.Places.{ids}
use Rattle.read_varwords.specs.Vars.{VarsDone}
use Rattle.read_varlists.proofs.variables.Given as goal

abbrev pub invariant-loop-j : goal.invariant-loop-j
invariant-loop-j l = (l.j ≤ l.count) × (length l.out ≡ length l.initial.out) × (length l.order ≡ length l.initial.order) × VarsDone (ids (triples l.codes) l.j l.first) (words l.initial.out) l.k (shorts l.binds) (shorts l.initial.order) l.q l.query (words l.out) (shorts l.order) l.at l.m l.any
