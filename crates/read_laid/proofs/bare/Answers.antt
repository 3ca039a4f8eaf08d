use mathlib.Core.Path.{refl}
use native.Mathlib.Omega.{arith}
use Rattle.mem_words.specs.Words.{length_words}
use Rattle.mem_sorts.specs.Shapes.{sort_small}
use Rattle.mem_words.specs.declared.Word.TheVariants.{End, Inner}
use Rattle.read_pieces.specs.Slots.{emit_yes, emit_no}
use Rattle.read_laid.specs.Shapes.{bare_on}
use Rattle.read_laid.proofs.bare.Goals as goal

pub emit-requires : goal.emit-requires
emit-requires c = record { value = sort_small c.args.sort }

pub returns-then-not-emit : goal.returns-then-not-emit
returns-then-not-emit c = record { to = omega (arith, (emit_no (Inner c.args.sort) c.emit.result c.emit.ensures (c.if-not-emit.true)).full) }

pub overflow_add-k : goal.overflow_add-k
overflow_add-k c = omega (arith, (emit_yes {w = Inner c.args.sort} c.emit.result c.emit.ensures (c.if-not-emit.false)).room, length_words c.args.out.now)

pub emit-requires-2 : goal.emit-requires-2
emit-requires-2 c = record { value = omega arith }

pub returns-then-not-emit-2 : goal.returns-then-not-emit-2
returns-then-not-emit-2 c = record { to = omega (arith, (emit_yes {w = Inner c.args.sort} c.emit.result c.emit.ensures (c.if-not-emit.false)).stored.long, (emit_no (End) c.emit-2.result c.emit-2.ensures (c.if-not-emit-2.true)).full) }

pub overflow_add-result : goal.overflow_add-result
overflow_add-result c = omega (arith, (emit_yes {w = Inner c.args.sort} c.emit.result c.emit.ensures (c.if-not-emit.false)).stored.long, (emit_yes {w = End} c.emit-2.result c.emit-2.ensures (c.if-not-emit-2.false)).room, length_words c.args.out.now)

pub returns : goal.returns
returns c = bare_on c.args.query c.args.sort _ c.requires (emit_yes {w = Inner c.args.sort} c.emit.result c.emit.ensures (c.if-not-emit.false)) (emit_yes {w = End} c.emit-2.result c.emit-2.ensures (c.if-not-emit-2.false)) refl
