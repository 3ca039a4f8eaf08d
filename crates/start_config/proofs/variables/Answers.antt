use mathlib.Core.Path.{◌≡◌, refl, subst, ◌∙◌}
use Prim.Native.Nat.{ℕ, ◌+◌}
use native.Mathlib.Omega.{arith}
use Rattle.mem_words.specs.Words.{words, length_words}
use Rattle.start_config.specs.Grown.{Grown, frees, frees_none, frees_more}
use Rattle.start_config.proofs.variables.Goals as goal

pub loop-i-init : goal.loop-i-init
loop-i-init c = (omega arith, refl, frees_none (words c.args.out.now) c.args.k)

pub overflow_add-k : goal.overflow_add-k
overflow_add-k c = omega (arith, c.requires.room, length_words c.args.out.now)

pub put-requires : goal.put-requires
put-requires c = record { inside = omega (arith, c.requires.room, c.loop-i.invariant.2.long); small = record { value = omega (arith, c.requires.few) } }

pub loop-i-preserved : goal.loop-i-preserved
loop-i-preserved c = (omega arith, c.put.auto.b ∙ c.loop-i.invariant.1, frees_more (omega (arith, c.requires.room, c.loop-i.invariant.2.long)) c.loop-i.invariant.2 c.put.ensures)

pub returns : goal.returns
returns c =
    let e : c.loop-i.i ≡ c.args.v = omega (arith, c.loop-i.invariant.0) in
    subst (λ (n : ℕ). Grown (words c.args.out.now) c.args.k (frees n) (words c.loop-i.out) (c.args.k + n)) e c.loop-i.invariant.2
