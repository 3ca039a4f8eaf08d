-- Bytes that are not zero are counted one by one. Assumes nothing.
use mathlib.Core.Path.{◌≡◌, refl, subst}
use Prim.Native.Nat.{ℕ}
use native.Mathlib.Omega.{arith}
use Rattle.check_zeros.specs.Zeros.{Tallied}
use Rattle.check_zeros.proofs.Zeroing.{tallied_none, tallied_more}
use Rattle.check_zeros.proofs.tally.Goals as goal

pub loop-k-init : goal.loop-k-init
loop-k-init c = (omega arith, tallied_none c.args.b.now c.args.i)

pub loop-k-preserved : goal.loop-k-preserved
loop-k-preserved c = (omega arith, tallied_more c.loop-k.invariant.1 refl c.nonzero-s.ensures)

pub returns : goal.returns
returns c = let e : c.loop-k.k ≡ 128 = omega (arith, c.loop-k.invariant.0) in subst (λ (n : ℕ). Tallied c.args.b.now c.args.i n c.loop-k.s) e c.loop-k.invariant.1
