use mathlib.Core.Bool.{true, false}
use native.Mathlib.Omega.{arith}
use Rattle.mem_words.specs.Words.{length_words}
use Rattle.mem_words.specs.declared.Word.TheVariants.{Bad}
use Rattle.read_pieces.specs.Slots.{emit_yes, emit_no}
use Rattle.read_pieces.proofs.Filling.{slots_none_1, slots_none_2, slots_last}
use Rattle.read_slots.proofs.slots.Goals as goal

pub emit-requires : goal.emit-requires
emit-requires c = record { value = omega arith }

pub returns-then-not-emit : goal.returns-then-not-emit
returns-then-not-emit c = slots_none_1 (emit_no Bad c.emit.result c.emit.ensures (c.if-not-emit.true))

pub overflow_add-k : goal.overflow_add-k
overflow_add-k c = let a = (emit_yes c.emit.result c.emit.ensures (c.if-not-emit.false)).room in omega (arith, length_words c.args.out.now)

pub emit-requires-2 : goal.emit-requires-2
emit-requires-2 c = record { value = omega arith }

pub returns-then-not-emit-2 : goal.returns-then-not-emit-2
returns-then-not-emit-2 c = slots_none_2 (emit_yes c.emit.result c.emit.ensures (c.if-not-emit.false)) (emit_no Bad c.emit-2.result c.emit-2.ensures (c.if-not-emit-2.true))

pub overflow_add-k-2 : goal.overflow_add-k-2
overflow_add-k-2 c = let a = (emit_yes c.emit.result c.emit.ensures (c.if-not-emit.false)).room in omega (arith, length_words c.args.out.now)

pub emit-requires-3 : goal.emit-requires-3
emit-requires-3 c = record { value = omega arith }

pub returns : goal.returns
returns c = slots_last _ (emit_yes c.emit.result c.emit.ensures (c.if-not-emit.false)) (emit_yes c.emit-2.result c.emit-2.ensures (c.if-not-emit-2.false)) c.emit-3.result c.emit-3.ensures
