-- Each region where the one before it ends. Assumes nothing.
use native.Mathlib.Omega.{arith}
use Prim.Native.Nat.{◌*◌}
use lib.Seq.{length-take-le}
use Rattle.start_fill.specs.Filled.{filled}
use borrow.Author.Rules.{rules}
use Rattle.start_fill.proofs.fill.Goals as goal

pub put_region-requires : goal.put_region-requires
put_region-requires c = record { room = omega arith; end = omega (arith, c.requires.store); source = omega (arith, c.requires.header) }

pub overflow_mul-e : goal.overflow_mul-e
overflow_mul-e c = omega (arith, c.requires.together)

pub overflow_add-e : goal.overflow_add-e
overflow_add-e c = omega (arith, c.requires.together)

pub overflow_mul-m : goal.overflow_mul-m
overflow_mul-m c = omega (arith, c.requires.together)

pub put_region-requires-2 : goal.put_region-requires-2
put_region-requires-2 c = record { room = omega arith; end = omega (arith, c.requires.together, c.requires.store, c.put_region.ensures.long); source = c.requires.names }

pub overflow_mul-a : goal.overflow_mul-a
overflow_mul-a c = omega (arith, c.requires.together)

pub put_region-requires-3 : goal.put_region-requires-3
put_region-requires-3 c = record { room = omega (arith, c.requires.together); end = omega (arith, c.requires.store, c.put_region.ensures.long, c.put_region-2.ensures.long); source = c.requires.rules }

pub overflow_mul-v : goal.overflow_mul-v
overflow_mul-v c = omega (arith, c.requires.few_variables)

pub put_region-requires-4 : goal.put_region-requires-4
put_region-requires-4 c = record { room = omega (arith, c.requires.few_variables); end = omega (arith, c.requires.store, c.put_region.ensures.long, c.put_region-2.ensures.long, c.put_region-3.ensures.long); source = c.requires.variables }

pub overflow_mul-n : goal.overflow_mul-n
overflow_mul-n c = omega (arith, c.requires.few_words)

pub put_region-requires-5 : goal.put_region-requires-5
put_region-requires-5 c = record { room = omega (arith, c.requires.few_words); end = omega (arith, c.requires.store, c.put_region.ensures.long, c.put_region-2.ensures.long, c.put_region-3.ensures.long, c.put_region-4.ensures.long); source = c.requires.words }

pub returns : goal.returns
returns c =
    let a = c.args in
    let p = c.requires in (
      filled a.m a.store.now _ _ _ _ _ _ _ _ _ _ p.store (length-take-le 18 a.header.now (omega (arith, p.header)))
          (length-take-le (3 * a.m) a.names.now p.names)
          (omega (arith, length-take-le (3 * a.a) a.rules.now p.rules, p.together))
          (omega (arith, length-take-le (3 * a.v) a.variables.now p.variables, p.few_variables))
          (omega (arith, length-take-le (3 * a.n) a.words.now p.words, p.few_words))
          c.put_region.ensures c.put_region-2.ensures c.put_region-3.ensures c.put_region-4.ensures c.put_region-5.ensures,
      record { names = λ i. omega (arith, c.type_inv.names i); rules = λ i. omega (arith, c.type_inv.rules i); variables = λ i. omega (arith, c.type_inv.variables i); words = λ i. omega (arith, c.type_inv.words i) },
    )
