-- Known, or counted. Assumes nothing.
use mathlib.Core.Path.{sym}
use native.Mathlib.Omega.{arith}
use Prim.Native.Nat.{◌*◌}
use lib.Seq.{length-take-le}
use Rattle.store_commit.proofs.Parts.{lent_words, lent_parts}
use Rattle.store_commit.proofs.counted.Goals as goal

pub returns-then-most-le2048 : goal.returns-then-most-le2048
returns-then-most-le2048 c = (c.requires.2 (omega (arith, c.if-most-le2048.true)), λ h. absurd (omega (arith, h, c.if-most-le2048.true)))

pub overflow_mul-e : goal.overflow_mul-e
overflow_mul-e c = omega (arith, c.requires.1)

pub slice_bounds-parts-end : goal.slice_bounds-parts-end
slice_bounds-parts-end c = sym (length-take-le (3 * c.args.n) c.args.out.now c.requires.0)

pub parts-requires : goal.parts-requires
parts-requires c = omega (arith, lent_words c.args.out.now c.args.n c.requires.0, c.requires.1)

pub returns : goal.returns
returns c = let e = lent_parts c.args.out.now c.args.n _ c.requires.0 c.parts.ensures.0 in (omega (arith, e), λ h. omega (arith, e, h))
