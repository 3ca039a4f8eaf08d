use mathlib.Core.Path.{◌≡◌, refl, subst, ◌∙◌}
use Prim.Native.Nat.{ℕ}
use native.Mathlib.Omega.{arith}
use Rattle.mem_numbers.specs.Numbers.{shorts, triples, length_triples}
use Rattle.start_variables.specs.Widened.{Widened, widened_more}
use Rattle.start_variables.proofs.widen.Goals as goal

pub loop-i-init : goal.loop-i-init
loop-i-init c = (omega arith, refl, record { numbers = refl })

pub get-v-requires-clause-inside : goal.get-v-requires-clause-inside
get-v-requires-clause-inside c = omega (arith, c.requires.source)

pub put-requires-clause-can : goal.put-requires-clause-can
put-requires-clause-can c = record { inside = omega (arith, c.requires.room, c.loop-i.invariant.1, length_triples c.loop-i.out, length_triples c.args.out.now); small = omega (arith, c.get-v.ensures.small) }

pub loop-i-preserved : goal.loop-i-preserved
loop-i-preserved c = (omega arith, c.put.auto.b ∙ c.loop-i.invariant.1, widened_more (omega (arith, c.requires.source)) (omega (arith, c.requires.room, c.loop-i.invariant.1, length_triples c.loop-i.out, length_triples c.args.out.now)) c.loop-i.invariant.2 c.get-v.ensures c.put.ensures)

pub returns : goal.returns
returns c =
    let e : c.loop-i.i ≡ c.args.n = omega (arith, c.loop-i.invariant.0) in
    subst (λ (k : ℕ). Widened (shorts c.args.order.now) k (triples c.loop-i.out)) e c.loop-i.invariant.2
