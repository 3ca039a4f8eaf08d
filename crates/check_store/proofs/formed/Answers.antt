-- Each test decides, or leaves it to the next. Assumes nothing.
use native.Mathlib.Omega.{arith}
use Rattle.mem_parts.specs.Parts.{cut}
use Rattle.check_store.proofs.Telling.{can_bytes, told_counted, told_wrong, can_rules, words_end, can_goals, rules_told, goals_told}
use borrow.Author.Rules.{rules}
use Rattle.check_store.proofs.formed.Goals as goal

pub bytes-h-requires : goal.bytes-h-requires
bytes-h-requires c = can_bytes c.args.store.now c.requires.store

pub rules-requires : goal.rules-requires
rules-requires c =
    let b = c.args.store.now in
    let t = told_counted b c.bytes-h.result c.in-Counted.c c.in-Counted.is c.bytes-h.ensures in
    can_rules b (λ i. omega (arith, c.type_inv.store i)) c.requires.store c.in-Counted.c t.0 t.1 c.args.work.now c.requires.working

pub returns-then-not-rules : goal.returns-then-not-rules
returns-then-not-rules c =
    let b = c.args.store.now in
    let t = told_counted b c.bytes-h.result c.in-Counted.c c.in-Counted.is c.bytes-h.ensures in
    rules_told b (λ i. omega (arith, c.type_inv.store i)) c.requires.store c.in-Counted.c t.0 t.1 _ _ c.rules.result (c.if-not-rules.true) c.rules.ensures

pub overflow_mul-e : goal.overflow_mul-e
overflow_mul-e c =
    let b = c.args.store.now in
    let t = told_counted b c.bytes-h.result c.in-Counted.c c.in-Counted.is c.bytes-h.ensures in
    omega (arith, words_end b (λ i. omega (arith, c.type_inv.store i)) c.requires.store c.in-Counted.c t.0 t.1)

pub overflow_add-e : goal.overflow_add-e
overflow_add-e c =
    let b = c.args.store.now in
    let t = told_counted b c.bytes-h.result c.in-Counted.c c.in-Counted.is c.bytes-h.ensures in
    omega (arith, words_end b (λ i. omega (arith, c.type_inv.store i)) c.requires.store c.in-Counted.c t.0 t.1)

pub slice_bounds-goals-end : goal.slice_bounds-goals-end
slice_bounds-goals-end c =
    let b = c.args.store.now in
    let t = told_counted b c.bytes-h.result c.in-Counted.c c.in-Counted.is c.bytes-h.ensures in
    omega (arith, words_end b (λ i. omega (arith, c.type_inv.store i)) c.requires.store c.in-Counted.c t.0 t.1)

pub goals-requires : goal.goals-requires
unfolding cut
goals-requires c =
    let b = c.args.store.now in
    let t = told_counted b c.bytes-h.result c.in-Counted.c c.in-Counted.is c.bytes-h.ensures in
    can_goals b (λ i. omega (arith, c.type_inv.store i)) c.requires.store c.in-Counted.c t.0 t.1 _ (omega (arith, c.requires.working, c.rules.auto.work))

pub returns-else-not-rules : goal.returns-else-not-rules
unfolding cut
returns-else-not-rules c =
    let b = c.args.store.now in
    let t = told_counted b c.bytes-h.result c.in-Counted.c c.in-Counted.is c.bytes-h.ensures in
    goals_told b (λ i. omega (arith, c.type_inv.store i)) c.requires.store c.in-Counted.c t.0 t.1 _ _ _ c.rules.result c.goals.result (c.if-not-rules.false) c.rules.ensures c.goals.ensures

pub returns-in-Wrong : goal.returns-in-Wrong
returns-in-Wrong c = told_wrong c.args.store.now c.bytes-h.result c.in-Wrong.is c.bytes-h.ensures
