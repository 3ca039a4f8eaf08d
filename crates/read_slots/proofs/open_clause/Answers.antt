use mathlib.Core.Bool.{true, false}
use native.Mathlib.Omega.{arith}
use Rattle.mem_words.specs.Words.{length_words}
use Rattle.mem_words.specs.declared.Word.TheVariants.{Inner}
use Rattle.mem_sorts.specs.declared.Sort.TheVariants.{Clause}
use Rattle.read_pieces.specs.Slots.{emit_yes, emit_no}
use Rattle.read_pieces.proofs.Filling.{clause_none, clause_last}
use Rattle.read_slots.proofs.open_clause.Goals as goal

pub emit-requires : goal.emit-requires
emit-requires c = record { value = omega arith }

pub returns-then-not-emit : goal.returns-then-not-emit
returns-then-not-emit c = clause_none c.args.count (emit_no (Inner Clause) c.emit.result c.emit.ensures (c.if-not-emit.true))

pub overflow_add-k : goal.overflow_add-k
overflow_add-k c = let a = (emit_yes c.emit.result c.emit.ensures (c.if-not-emit.false)).room in omega (arith, length_words c.args.out.now)

pub emit-requires-2 : goal.emit-requires-2
emit-requires-2 c = record { value = c.requires }

pub returns : goal.returns
returns c = clause_last _ c.args.count (emit_yes c.emit.result c.emit.ensures (c.if-not-emit.false)) c.emit-2.result c.emit-2.ensures
