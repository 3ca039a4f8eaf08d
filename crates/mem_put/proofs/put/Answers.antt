use mathlib.Core.Path.{refl}
use mathlib.Core.List.{[], ◌∷◌}
use Prim.Native.Nat.{◌/◌, ◌%◌}
use native.Mathlib.Omega.{arith}
use lib.ListN.{length-set}
use Rattle.mem_words.specs.Words.{length_words, stored_words}
use Rattle.mem_put.proofs.put.Goals as goal

pub overflow_mul-j : goal.overflow_mul-j
overflow_mul-j c = omega (arith, length_words c.args.b.now)

pub overflow_add-k : goal.overflow_add-k
overflow_add-k c = omega (arith, length_words c.args.b.now)

pub overflow_add-l : goal.overflow_add-l
overflow_add-l c = omega (arith, length_words c.args.b.now)

pub bounds-b-j : goal.bounds-b-j
bounds-b-j c = omega (arith, length_words c.args.b.now)

pub bounds-b-k : goal.bounds-b-k
bounds-b-k c = simp length-set (omega (arith, length_words c.args.b.now))

pub bounds-b-l : goal.bounds-b-l
bounds-b-l c = simp length-set (omega (arith, length_words c.args.b.now))

pub returns : goal.returns
returns c =
    let v = c.value_of-v.result in
    stored_words c.args.b.now (v % 256 ∷ v / 256 % 256 ∷ []) c.args.i (c.class_of-c.result % 256) c.args.w c.requires.inside refl (omega (arith, c.class_of-c.ensures)) (omega (arith, c.value_of-v.ensures, c.requires.small.value))
