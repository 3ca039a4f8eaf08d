-- `read_scopes::unbind` meets its contract: what is left to take back leads to the same table. Assumes nothing.
use mathlib.Core.Path.{◌≡◌, refl, sym, ap, ◌∙◌}
use Prim.Native.Nat.{ℕ, ◌-◌}
use native.Mathlib.Omega.{arith}
use Rattle.mem_numbers.specs.Numbers.{shorts, triples, length_shorts, length_triples}
use Rattle.read_scopes.specs.Scopes.{taken_back, taken_none, taken_turn}
use Rattle.read_scopes.specs.TheirContracts.{can_leave}
use Rattle.read_scopes.proofs.unbind.Goals as goal

pub loop-j-init : goal.loop-j-init
loop-j-init c = (omega arith, refl, refl, refl)

pub overflow_mul-j : goal.overflow_mul-j
overflow_mul-j c = omega (arith, c.requires.inside (omega arith), length_triples c.args.codes.now)

pub overflow_add-first : goal.overflow_add-first
overflow_add-first c = omega (arith, c.requires.inside (omega arith), length_triples c.args.codes.now)

pub overflow_add-n : goal.overflow_add-n
overflow_add-n c = omega (arith, c.requires.room, length_shorts c.args.saves.now)

pub leave-requires : goal.leave-requires
leave-requires c = can_leave _ c.requires c.loop-j.invariant.2 (omega arith)

pub loop-j-preserved : goal.loop-j-preserved
loop-j-preserved c = (omega arith, c.leave.auto.binds ∙ c.loop-j.invariant.1, c.leave.ensures.bound.long ∙ c.loop-j.invariant.2, taken_turn c.args.first (c.loop-j.j - 1) c.args.n c.loop-j.j (omega arith) c.leave.ensures ∙ c.loop-j.invariant.3)

pub returns : goal.returns
returns c =
    let e : c.loop-j.j ≡ 0 = omega arith in
    record { list = sym (ap (λ (m : ℕ). taken_back (triples c.args.codes.now) c.args.first m (shorts c.loop-j.binds) (shorts c.args.saves.now) c.args.n) e ∙ taken_none (triples c.args.codes.now) c.args.first (shorts c.loop-j.binds) (shorts c.args.saves.now) c.args.n) ∙ c.loop-j.invariant.3; long = c.loop-j.invariant.2 }
