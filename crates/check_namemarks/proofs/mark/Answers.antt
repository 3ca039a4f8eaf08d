-- The first byte, or one more. Assumes nothing.
use mathlib.Core.Path.{ap, ◌∙◌}
use mathlib.Core.Bool.{true}
use Prim.Native.Nat.{ℕ, ◌+◌, ◌/◌, ◌%◌}
use native.Mathlib.Omega.{arith}
use Rattle.akl.specs.Token.{class_of, word_class, digit_class}
use Rattle.check_namemarks.specs.Marks.{packed}
use Rattle.check_namemarks.proofs.Marking.{formed_small, goes_small, marked_first, marked_further}
use Rattle.check_namemarks.proofs.mark.Goals as goal

pub pack-requires : goal.pack-requires
pack-requires c = let z = formed_small (class_of c.args.x) true true in omega (arith, c.first-f.ensures, z)

pub returns-then-p-eq0 : goal.returns-then-p-eq0
returns-then-p-eq0 c = (c.pack.ensures.0 ∙ ap (λ (k : ℕ). packed k 1) c.first-f.ensures ∙ marked_first c.args.p c.args.s (class_of c.args.x) c.if-p-eq0.true, c.pack.ensures.1)

pub overflow_add-l : goal.overflow_add-l
overflow_add-l c = omega (arith, c.requires)

pub pack-requires-2 : goal.pack-requires-2
pack-requires-2 c = let z = goes_small (c.args.s / 64) (word_class (class_of c.args.x)) (digit_class (class_of c.args.x)) (omega (arith, c.requires)) in omega (arith, c.further-f.ensures, z)

pub returns : goal.returns
returns c = (c.pack-2.ensures.0 ∙ ap (λ (k : ℕ). packed k (c.args.s % 64 + 1)) c.further-f.ensures ∙ marked_further c.args.p c.args.s (class_of c.args.x) c.if-p-eq0.false, c.pack-2.ensures.1)
