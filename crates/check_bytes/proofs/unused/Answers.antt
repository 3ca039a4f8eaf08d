-- Region by region. Assumes nothing.
use native.Mathlib.Omega.{arith}
use Rattle.mem_numbers.specs.Decides.{decided_yes, decided_no}
use Rattle.check_bytes.proofs.Regions.{Rules, Variables, whole, few_together, few_variables, few_words, no_rules, no_variables, all_unused}
use Rattle.check_bytes.proofs.unused.Goals as goal

pub overflow_mul-h : goal.overflow_mul-h
overflow_mul-h c = omega (arith, few_together c.args.parts c.args.store.now c.requires.0 c.args.h c.requires.1)

pub overflow_add-h : goal.overflow_add-h
overflow_add-h c = omega (arith, few_together c.args.parts c.args.store.now c.requires.0 c.args.h c.requires.1)

pub overflow_mul-h-2 : goal.overflow_mul-h-2
overflow_mul-h-2 c = omega (arith, few_together c.args.parts c.args.store.now c.requires.0 c.args.h c.requires.1)

pub overflow_add-h-2 : goal.overflow_add-h-2
overflow_add-h-2 c = omega (arith, few_together c.args.parts c.args.store.now c.requires.0 c.args.h c.requires.1)

pub zeros-requires : goal.zeros-requires
zeros-requires c = let f = few_together c.args.parts c.args.store.now c.requires.0 c.args.h c.requires.1 in let w = whole c.args.parts c.args.store.now c.requires.0 c.args.h c.requires.1 in (record { fits = omega (arith, f, w) }, omega (arith, f))

pub returns-then-not-zeros : goal.returns-then-not-zeros
returns-then-not-zeros c = no_rules c.args.parts c.args.store.now c.requires.0 c.args.h c.requires.1 (decided_no {P = Rules c.args.parts c.args.store.now c.requires.0 c.args.h c.requires.1} c.zeros.result (c.if-not-zeros.true) c.zeros.ensures)

pub overflow_mul-h-3 : goal.overflow_mul-h-3
overflow_mul-h-3 c = omega (arith, few_variables c.args.parts c.args.store.now c.requires.0 c.args.h c.requires.1)

pub overflow_add-h-3 : goal.overflow_add-h-3
overflow_add-h-3 c = omega (arith, few_variables c.args.parts c.args.store.now c.requires.0 c.args.h c.requires.1)

pub zeros-requires-2 : goal.zeros-requires-2
zeros-requires-2 c = let f = few_variables c.args.parts c.args.store.now c.requires.0 c.args.h c.requires.1 in let w = whole c.args.parts c.args.store.now c.requires.0 c.args.h c.requires.1 in (record { fits = omega (arith, f, w) }, omega (arith, f))

pub returns-then-not-zeros-2 : goal.returns-then-not-zeros-2
returns-then-not-zeros-2 c = no_variables c.args.parts c.args.store.now c.requires.0 c.args.h c.requires.1 (decided_no {P = Variables c.args.parts c.args.store.now c.requires.0 c.args.h c.requires.1} c.zeros-2.result (c.if-not-zeros-2.true) c.zeros-2.ensures)

pub overflow_mul-h-4 : goal.overflow_mul-h-4
overflow_mul-h-4 c = omega (arith, few_words c.args.parts c.args.store.now c.requires.0 c.args.h c.requires.1, c.requires.0.parts)

pub overflow_add-h-4 : goal.overflow_add-h-4
overflow_add-h-4 c = omega (arith, few_words c.args.parts c.args.store.now c.requires.0 c.args.h c.requires.1, c.requires.0.parts)

pub overflow_mul-parts : goal.overflow_mul-parts
overflow_mul-parts c = omega (arith, c.requires.0.parts)

pub overflow_add-parts : goal.overflow_add-parts
overflow_add-parts c = omega (arith, c.requires.0.parts)

pub zeros-requires-3 : goal.zeros-requires-3
zeros-requires-3 c = let f = few_words c.args.parts c.args.store.now c.requires.0 c.args.h c.requires.1 in let w = whole c.args.parts c.args.store.now c.requires.0 c.args.h c.requires.1 in (record { fits = omega (arith, f, w) }, omega (arith, f))

pub returns : goal.returns
returns c = all_unused c.args.parts c.args.store.now c.requires.0 c.args.h c.requires.1 (decided_yes {P = Rules c.args.parts c.args.store.now c.requires.0 c.args.h c.requires.1} c.zeros.result (c.if-not-zeros.false) c.zeros.ensures) (decided_yes {P = Variables c.args.parts c.args.store.now c.requires.0 c.args.h c.requires.1} c.zeros-2.result (c.if-not-zeros-2.false) c.zeros-2.ensures) c.zeros-3.result c.zeros-3.ensures
