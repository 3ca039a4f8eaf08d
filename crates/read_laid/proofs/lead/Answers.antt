use native.Mathlib.Omega.{arith}
use Rattle.mem_words.specs.Words.{length_words}
use Rattle.mem_sorts.specs.Shapes.{sort_small}
use Rattle.mem_words.specs.declared.Word.TheVariants.{Inner}
use Rattle.read_pieces.specs.Slots.{emit_yes, emit_no}
use Rattle.read_laid.specs.Shapes.{lead_on, can_var}
use Rattle.read_laid.proofs.lead.Goals as goal

pub emit-requires : goal.emit-requires
emit-requires c = record { value = sort_small c.args.sort }

pub returns-then-not-emit : goal.returns-then-not-emit
returns-then-not-emit c = record { to = omega (arith, (emit_no (Inner c.args.sort) c.emit.result c.emit.ensures (c.if-not-emit.true)).full) }

pub overflow_add-k : goal.overflow_add-k
overflow_add-k c = omega (arith, (emit_yes {w = Inner c.args.sort} c.emit.result c.emit.ensures (c.if-not-emit.false)).room, length_words c.args.out.now)

pub variable-requires : goal.variable-requires
variable-requires c = can_var c.requires.0 c.requires.1

pub returns : goal.returns
returns c = lead_on c.args.query c.args.sort c.args.id _ _ c.requires.0 (emit_yes {w = Inner c.args.sort} c.emit.result c.emit.ensures (c.if-not-emit.false)) c.variable.result c.variable.ensures
