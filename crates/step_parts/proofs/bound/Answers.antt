-- By what the rule does. Assumes nothing.
use mathlib.Core.Path.{refl, sym, ◌∙◌}
use native.Mathlib.Omega.{arith}
use Prim.Native.Nat.{◌*◌}
use lib.Seq.{length-take-le}
use Rattle.step_parts.specs.Bounds.{kept, grown, unknown}
use Rattle.step_parts.proofs.Cuts.{first_length, first_closed, first_piece}
use Rattle.step_parts.proofs.bound.Goals as goal

pub returns-then-not-adds : goal.returns-then-not-adds
returns-then-not-adds c = kept (sym c.adds.ensures ∙ c.if-not-adds.true) refl

pub returns-then-x-gt28672 : goal.returns-then-x-gt28672
returns-then-x-gt28672 c = unknown (omega arith)

pub overflow_mul-e : goal.overflow_mul-e
overflow_mul-e c = omega (arith, c.if-x-gt28672.false)

pub slice_bounds-piece-end : goal.slice_bounds-piece-end
slice_bounds-piece-end c = sym (length-take-le (3 * c.args.x) c.args.out.now (omega (arith, c.if-x-gt28672.false, c.requires.room)))

pub piece-p-requires : goal.piece-p-requires
piece-p-requires c = (omega (arith, c.if-x-gt28672.false, first_length c.args.out.now c.args.x c.args.u c.args.r c.args.i c.requires (omega (arith, c.if-x-gt28672.false))), first_closed c.args.out.now c.args.x c.args.u c.args.r c.args.i c.requires (omega (arith, c.if-x-gt28672.false)) (c.requires.closed (sym c.at_itself.ensures ∙ c.if-at_itself.true) (omega (arith, c.if-x-gt28672.false))))

pub overflow_add-result : goal.overflow_add-result
overflow_add-result c = omega (arith, c.requires.few, c.piece-p.ensures.1)

pub returns-then-at_itself : goal.returns-then-at_itself
returns-then-at_itself c = grown (sym c.at_itself.ensures ∙ c.if-at_itself.true) (first_piece c.args.out.now c.args.x c.args.u c.args.r c.args.i c.requires (omega (arith, c.if-x-gt28672.false)) _ c.piece-p.ensures.0)

pub returns : goal.returns
returns c = unknown (omega arith)
