use native.Mathlib.Omega.{arith}
use Rattle.mem_words.specs.Words.{length_words}
use Rattle.mem_words.specs.declared.Word.TheVariants.{Inner}
use Rattle.mem_sorts.specs.declared.Sort.TheVariants.{Call}
use Rattle.read_pieces.specs.Slots.{emit_yes, emit_no}
use Rattle.read_laid.specs.Shapes.{called_on, tables_word}
use Rattle.read_laid.proofs.called.Goals as goal

pub emit-requires : goal.emit-requires
emit-requires c = record { value = omega arith }

pub returns-then-not-emit : goal.returns-then-not-emit
returns-then-not-emit c = record { to = omega (arith, (emit_no (Inner Call) c.emit.result c.emit.ensures (c.if-not-emit.true)).full) }

pub overflow_add-k : goal.overflow_add-k
overflow_add-k c = omega (arith, (emit_yes {w = Inner Call} c.emit.result c.emit.ensures (c.if-not-emit.false)).room, length_words c.args.out.now)

pub labelled-requires : goal.labelled-requires
labelled-requires c = (tables_word c.requires.0 (emit_yes {w = Inner Call} c.emit.result c.emit.ensures (c.if-not-emit.false)), c.requires.1, c.requires.2)

pub returns : goal.returns
returns c = called_on c.args.count c.args.name c.requires.0 (emit_yes {w = Inner Call} c.emit.result c.emit.ensures (c.if-not-emit.false)) c.labelled.ensures
