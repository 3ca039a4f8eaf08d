-- `read_scopes::bind` meets its contract: after j turns the first j names are bound. Assumes nothing.
use mathlib.Core.Path.{refl, ◌∙◌}
use native.Mathlib.Omega.{arith}
use Rattle.mem_numbers.specs.Numbers.{shorts, triples, length_triples}
use Rattle.read_scopes.specs.Scopes.{bindings_none, bindings_again, bindings_more, bindings_all}
use Rattle.read_scopes.specs.TheirContracts.{can_enter}
use Rattle.read_scopes.proofs.bind.Goals as goal
use Rattle.read_scopes.proofs.bind.Goals.{then-level-old, else-level-old}

pub returns-then-room-n : goal.returns-then-room-n
returns-then-room-n c = record { short = omega (arith, c.count-room.ensures.is); same_b = refl; same_s = refl }

pub returns-then-room-n-2 : goal.returns-then-room-n-2
returns-then-room-n-2 c = record { short = omega (arith, c.count-room.ensures.is); same_b = refl; same_s = refl }

pub loop-j-init : goal.loop-j-init
loop-j-init c = (omega arith, refl, refl, bindings_none (triples c.args.codes.now) c.args.first (shorts c.args.binds.now) (shorts c.args.saves.now) c.args.n c.args.level (omega (arith, c.count-room.ensures.is)))

pub overflow_mul-j : goal.overflow_mul-j
overflow_mul-j c = omega (arith, c.requires.inside (omega arith), length_triples c.args.codes.now)

pub overflow_add-first : goal.overflow_add-first
overflow_add-first c = omega (arith, c.requires.inside (omega arith), length_triples c.args.codes.now)

pub overflow_add-n : goal.overflow_add-n
overflow_add-n c = omega (arith, c.count-room.ensures.small)

pub overflow_add-level : goal.overflow_add-level
overflow_add-level c = omega (arith, c.requires.small)

pub overflow_add-level-in-loop-j : goal.overflow_add-level-in-loop-j
overflow_add-level-in-loop-j c = omega (arith, c.requires.small)

pub enter-old-requires : goal.enter-old-requires
enter-old-requires c =
    let q = can_enter c.requires c.loop-j.invariant.3 (omega arith) (omega (arith, c.count-room.ensures.is)) in
    record { inside = q.inside; name = q.name; room = omega (arith, q.room); small = omega (arith, q.small) }

pub loop-j-preserved : goal.loop-j-preserved
loop-j-preserved c =
    elim c.if-level-old.branch [
      | then-level-old w ↦ (omega arith, c.enter-old.auto.binds ∙ c.loop-j.invariant.1, c.enter-old.auto.saves ∙ c.loop-j.invariant.2, rw w.twice-is (bindings_again c.loop-j.invariant.3 (can_enter c.requires c.loop-j.invariant.3 (omega arith) (omega (arith, c.count-room.ensures.is))) c.enter-old.ensures w.if-level-old.true))
      | else-level-old w ↦ (omega arith, c.enter-old.auto.binds ∙ c.loop-j.invariant.1, c.enter-old.auto.saves ∙ c.loop-j.invariant.2, rw w.twice-is (bindings_more c.loop-j.invariant.3 (can_enter c.requires c.loop-j.invariant.3 (omega arith) (omega (arith, c.count-room.ensures.is))) c.enter-old.ensures (omega (arith, w.if-level-old.false))))
    ]

pub returns-then-twice : goal.returns-then-twice
returns-then-twice c = bindings_all c.loop-j.invariant.3 (omega arith) c.if-twice.true

pub returns : goal.returns
returns c = bindings_all c.loop-j.invariant.3 (omega arith) c.if-twice.false
