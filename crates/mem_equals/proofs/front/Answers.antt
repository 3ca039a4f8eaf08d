use borrow.Author.Rules.{rules}
use native.Mathlib.Omega.{arith}
use Rattle.std.proofs.Common.{◌≡◌, ◌+◌, ◌*◌, ◌-◌, take, drop}
use Rattle.mem_copies.specs.Runs.{run, run_none}
use Rattle.mem_copies.specs.Alike.{run_join}
use Rattle.mem_equals.proofs.front.Goals as goal

pub loop-p-init : goal.loop-p-init
loop-p-init c = run_none _ _ _ _

pub loop-p-preserved : goal.loop-p-preserved
unfolding run
loop-p-preserved c =
    let a = c.args in
    let k = 32 * c.loop-p.p in
    let e : 32 * (c.loop-p.p + 1) ≡ k + 32 = omega arith in
    let x = a.i + k in
    let y = a.j + k in
    let f : x + 32 - x ≡ 32 = omega arith in
    let g : y + 32 - y ≡ 32 = omega arith in
    let same : take (x + 32 - x) (drop x a.a.now) ≡ take (y + 32 - y) (drop y a.b.now) = search rules in
    rw e (run_join a.i a.j k 32 a.a.now a.b.now c.loop-p.invariant (rw (f, g) at same))
