use native.Mathlib.Omega.{arith}
use Rattle.mem_words.specs.Words.{length_words}
use Rattle.mem_words.specs.declared.Word.TheVariants.{Num}
use Rattle.read_pieces.specs.Slots.{emit_yes, emit_no}
use Rattle.read_laid.specs.Shapes.{labelled_on, tables_word}
use Rattle.read_laid.proofs.labelled.Goals as goal

pub emit-requires : goal.emit-requires
emit-requires c = record { value = omega (arith, c.requires.0.cells, c.requires.1) }

pub returns-then-not-emit : goal.returns-then-not-emit
returns-then-not-emit c = record { to = omega (arith, (emit_no (Num c.args.label) c.emit.result c.emit.ensures (c.if-not-emit.true)).full) }

pub overflow_add-k : goal.overflow_add-k
overflow_add-k c = omega (arith, (emit_yes {w = Num c.args.label} c.emit.result c.emit.ensures (c.if-not-emit.false)).room, length_words c.args.out.now)

pub tail-requires : goal.tail-requires
tail-requires c = (tables_word c.requires.0 (emit_yes {w = Num c.args.label} c.emit.result c.emit.ensures (c.if-not-emit.false)), c.requires.2)

pub returns : goal.returns
returns c = labelled_on c.args.count c.args.label c.requires.0 c.requires.1 (emit_yes {w = Num c.args.label} c.emit.result c.emit.ensures (c.if-not-emit.false)) c.tail.ensures
