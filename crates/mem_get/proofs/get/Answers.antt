use mathlib.Core.Path.{◌≡◌, sym, ap₂, ◌∙◌}
use Prim.Native.Nat.{ℕ, ◌+◌, ◌*◌}
use native.Mathlib.Omega.{arith}
use Rattle.mem_words.specs.Words.{word, length_words, get_d_words, word_small}
use Rattle.mem_numbers.specs.Numbers.{value_at}
use Rattle.mem_get.proofs.get.Goals as goal

pub overflow_mul-j : goal.overflow_mul-j
overflow_mul-j c = omega (arith, length_words c.args.b.now)

pub overflow_add-k : goal.overflow_add-k
overflow_add-k c = omega (arith, length_words c.args.b.now)

pub overflow_add-l : goal.overflow_add-l
overflow_add-l c = omega (arith, length_words c.args.b.now)

pub bounds-b-j : goal.bounds-b-j
bounds-b-j c = omega (arith, length_words c.args.b.now)

pub bounds-b-k : goal.bounds-b-k
bounds-b-k c = omega (arith, length_words c.args.b.now)

pub bounds-b-l : goal.bounds-b-l
bounds-b-l c = omega (arith, length_words c.args.b.now)

pub returns : goal.returns
returns c =
    let l = c.args.b.now in
    let j : ℕ = 3 * c.args.i in
    let v : c.from-lo.result + c.from-hi.result * 256 ≡ value_at 2 l (j + 1) = omega arith in
    record { is = c.make.ensures ∙ ap₂ word c.from-c.ensures v ∙ sym (get_d_words l c.args.i c.requires); small = rw c.make.ensures (word_small c.from-c.result (c.from-lo.result + c.from-hi.result * 256) (omega arith)) }
