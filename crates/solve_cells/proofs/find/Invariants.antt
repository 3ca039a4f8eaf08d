use mathlib.Core.Path.{◌≡◌}
use lib.ListN.{get_or}
use Rattle.mem_numbers.specs.Numbers.{triples}
use Rattle.solve_cells.specs.Cells.{room}
use Rattle.solve_cells.proofs.Climb.{Climbing}
use Rattle.solve_cells.proofs.find.Given as goal

abbrev pub invariant-loop-c : goal.invariant-loop-c
invariant-loop-c l = Climbing (triples l.cells) l.x l.y × (l.c ≡ get_or (triples l.cells) l.y 0)

abbrev pub decreases-loop-c : goal.decreases-loop-c
decreases-loop-c l = room (triples l.cells) l.y
