-- By its cases. Assumes nothing.
use native.Mathlib.Omega.{arith}
use Rattle.check_namemarks.proofs.Marking.{packed_zero, packed_over, packed_within}
use Rattle.check_namemarks.proofs.pack.Goals as goal

pub returns-then-f-eq0 : goal.returns-then-f-eq0
returns-then-f-eq0 c = (packed_zero c.args.f c.args.l c.if-f-eq0.true, omega arith)

pub returns-then-l-gt32 : goal.returns-then-l-gt32
returns-then-l-gt32 c = (packed_over c.args.f c.args.l (omega arith), omega arith)

pub overflow_mul-result : goal.overflow_mul-result
overflow_mul-result c = omega (arith, c.requires)

pub overflow_add-result : goal.overflow_add-result
overflow_add-result c = omega (arith, c.requires)

pub returns : goal.returns
returns c = (packed_within c.args.f c.args.l c.if-f-eq0.false (omega arith), omega (arith, c.requires))
