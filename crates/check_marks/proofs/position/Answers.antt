-- By cases. Assumes nothing.
use native.Mathlib.Omega.{arith}
use Rattle.check_marks.specs.Marking.{newer_first, newer_next, newer_old}
use Rattle.check_marks.proofs.position.Goals as goal

pub overflow_add-result : goal.overflow_add-result
overflow_add-result c = omega (arith, c.requires.0)

pub returns-then-l-eq0 : goal.returns-then-l-eq0
returns-then-l-eq0 c = (newer_first c.args.l c.args.i c.args.g c.if-l-eq0.true, omega (arith, c.requires.0))

pub overflow_add-result-then-g-l : goal.overflow_add-result-then-g-l
overflow_add-result-then-g-l c = omega (arith, c.requires.0)

pub returns-then-g-l : goal.returns-then-g-l
returns-then-g-l c = (newer_next c.args.l c.args.i c.args.g c.if-l-eq0.false c.if-g-l.true, omega (arith, c.requires.0))

pub returns : goal.returns
returns c = (newer_old c.args.l c.args.i c.args.g c.if-l-eq0.false c.if-g-l.false, c.requires.1)
