use mathlib.Core.Path.{refl}
use native.Mathlib.Omega.{arith}
use Rattle.mem_numbers.specs.Numbers.{triples}
use Rattle.solve_cells.proofs.Climb.{climb_more, climb_less, climb_done}
use Rattle.solve_cells.proofs.find.Goals as goal

pub get-c-requires-clause-inside : goal.get-c-requires-clause-inside
get-c-requires-clause-inside c = c.requires.inside

pub loop-c-init : goal.loop-c-init
loop-c-init c = (record { inside = c.requires.inside; to = refl }, c.get-c.ensures.is)

pub get-c-requires-in-loop-c-clause-inside : goal.get-c-requires-in-loop-c-clause-inside
get-c-requires-in-loop-c-clause-inside c = (climb_more (triples c.args.cells.now) c.requires.up c.args.x c.loop-c.y c.loop-c.c c.loop-c.invariant.0 c.loop-c.invariant.1 (omega arith)).inside

pub loop-c-smaller : goal.loop-c-smaller
loop-c-smaller c = climb_less (triples c.args.cells.now) c.requires.up c.loop-c.y c.loop-c.c c.loop-c.invariant.1 (omega arith)

pub loop-c-preserved : goal.loop-c-preserved
loop-c-preserved c = (climb_more (triples c.args.cells.now) c.requires.up c.args.x c.loop-c.y c.loop-c.c c.loop-c.invariant.0 c.loop-c.invariant.1 (omega arith), c.get-c-in-loop-c.ensures.is)

pub returns : goal.returns
returns c = climb_done (triples c.args.cells.now) c.args.x c.loop-c.y c.loop-c.c c.loop-c.invariant.0 c.loop-c.invariant.1 (omega arith)
