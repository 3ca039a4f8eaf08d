use mathlib.Core.Path.{refl, subst}
use mathlib.Core.Bool.{true, false}
use Prim.Native.Nat.{◌-◌}
use native.Mathlib.Omega.{arith}
use Rattle.mem_numbers.specs.Numbers.{shorts}
use Rattle.mem_words.specs.Words.{words, length_words}
use Rattle.mem_words.specs.declared.Word.TheVariants.{Free, Level}
use Rattle.read_lookups.specs.Finding.{FoundAt}
use Rattle.read_emits.specs.TheirContracts.{emit_yes, emit_no}
use Rattle.read_varwords.specs.OneVar.{free_small, one_level, one_free, one_found, one_new, one_many, one_full}
use Rattle.read_varwords.proofs.variable.Goals as goal

pub get-l-requires-clause-inside : goal.get-l-requires-clause-inside
get-l-requires-clause-inside c = c.requires.name

pub emit-requires : goal.emit-requires
emit-requires c = record { value = omega (arith, c.get-l.ensures.small) }

pub returns-then-not-emit : goal.returns-then-not-emit
returns-then-not-emit c = one_full c.args.id (emit_no (Level (c.get-l.result - 1)) c.emit.result c.emit.ensures (c.if-not-emit.true)) refl

pub overflow_add-result : goal.overflow_add-result
overflow_add-result c =
    let e = emit_yes {w = Level (c.get-l.result - 1)} c.emit.result c.emit.ensures (c.if-not-emit.false) in
    omega (arith, e.room, length_words c.args.out.now)

pub returns-then-l-gt0 : goal.returns-then-l-gt0
returns-then-l-gt0 c = one_level c.requires (c.get-l.result - 1) (omega (arith, c.get-l.ensures.is)) (emit_yes c.emit.result c.emit.ensures (c.if-not-emit.false))

pub emit-requires-then-not-query : goal.emit-requires-then-not-query
emit-requires-then-not-query c = record { value = omega arith }

pub returns-then-not-emit-2 : goal.returns-then-not-emit-2
returns-then-not-emit-2 c = one_full c.args.id (emit_no (Free 0) c.emit-then-not-query.result c.emit-then-not-query.ensures (c.if-not-emit-2.true)) refl

pub overflow_add-result-then-not-query : goal.overflow_add-result-then-not-query
overflow_add-result-then-not-query c =
    let e = emit_yes {w = Free 0} c.emit-then-not-query.result c.emit-then-not-query.ensures (c.if-not-emit-2.false) in
    omega (arith, e.room, length_words c.args.out.now)

pub returns-then-not-query : goal.returns-then-not-query
returns-then-not-query c = one_free c.requires (c.if-not-query.true) (omega (arith, c.get-l.ensures.is)) (emit_yes c.emit-then-not-query.result c.emit-then-not-query.ensures (c.if-not-emit-2.false))

pub number_of-f-requires : goal.number_of-f-requires
number_of-f-requires c = omega (arith, c.requires.few, c.requires.order)

pub emit-requires-in-Some : goal.emit-requires-in-Some
emit-requires-in-Some c =
    let f = subst (FoundAt (shorts c.args.order.now) c.args.q c.args.id) c.in-Some.is c.number_of-f.ensures in
    free_small c.free.ensures (omega (arith, f.inside, c.requires.few))

pub returns-then-not-emit-3 : goal.returns-then-not-emit-3
returns-then-not-emit-3 c = one_full c.args.id (emit_no c.free.result c.emit-in-Some.result c.emit-in-Some.ensures (c.if-not-emit-3.true)) refl

pub overflow_add-result-in-Some : goal.overflow_add-result-in-Some
overflow_add-result-in-Some c =
    let e = emit_yes {w = c.free.result} c.emit-in-Some.result c.emit-in-Some.ensures (c.if-not-emit-3.false) in
    omega (arith, e.room, length_words c.args.out.now)

pub returns-then-q-ge16 : goal.returns-then-q-ge16
returns-then-q-ge16 c =
    let f = subst (FoundAt (shorts c.args.order.now) c.args.q c.args.id) c.in-None.is c.number_of-f.ensures in
    one_many (words c.args.out.now) c.requires (c.if-not-query.false) (omega (arith, c.get-l.ensures.is)) f (omega arith)

pub put-requires-clause-can : goal.put-requires-clause-can
put-requires-clause-can c = record { inside = omega (arith, c.requires.order); small = c.requires.small }

pub emit-requires-in-None : goal.emit-requires-in-None
emit-requires-in-None c = free_small c.free-in-None.ensures (omega (arith, c.requires.few))

pub returns-then-not-emit-4 : goal.returns-then-not-emit-4
returns-then-not-emit-4 c = one_full c.args.id (emit_no c.free-in-None.result c.emit-in-None.result c.emit-in-None.ensures (c.if-not-emit-4.true)) c.put.ensures.long

pub overflow_add-result-in-None : goal.overflow_add-result-in-None
overflow_add-result-in-None c =
    let e = emit_yes {w = c.free-in-None.result} c.emit-in-None.result c.emit-in-None.ensures (c.if-not-emit-4.false) in
    omega (arith, e.room, length_words c.args.out.now)

pub returns-else-not-emit-3 : goal.returns-else-not-emit-3
returns-else-not-emit-3 c =
    let f = subst (FoundAt (shorts c.args.order.now) c.args.q c.args.id) c.in-Some.is c.number_of-f.ensures in
    one_found c.requires c.in-Some.v (c.if-not-query.false) (omega (arith, c.get-l.ensures.is)) f c.free.ensures (emit_yes c.emit-in-Some.result c.emit-in-Some.ensures (c.if-not-emit-3.false))

pub returns-else-not-emit-4 : goal.returns-else-not-emit-4
returns-else-not-emit-4 c =
    let f = subst (FoundAt (shorts c.args.order.now) c.args.q c.args.id) c.in-None.is c.number_of-f.ensures in
    one_new c.requires (c.if-not-query.false) (omega (arith, c.get-l.ensures.is)) f (omega arith) c.put.ensures c.free-in-None.ensures (emit_yes c.emit-in-None.result c.emit-in-None.ensures (c.if-not-emit-4.false))
