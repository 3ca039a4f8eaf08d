use mathlib.Core.Path.{refl, ◌∙◌}
use native.Mathlib.Omega.{arith}
use Rattle.mem_words.specs.declared.Word.TheVariants.{End}
use Rattle.mem_words.specs.Words.{length_words}
use Rattle.read_emits.specs.TheirContracts.{ended_none, ended_more, ended_short, ended_all, emit_yes, emit_no}
use Rattle.read_emits.proofs.ends.Goals as goal

pub loop-j-init : goal.loop-j-init
loop-j-init c = (omega arith, refl, ended_none c.requires)

pub overflow_add-k : goal.overflow_add-k
overflow_add-k c = omega (arith, c.loop-j.invariant.2.wrote.inside, length_words c.loop-j.out)

pub emit-requires : goal.emit-requires
emit-requires c = record { value = omega arith }

pub returns-then-not-emit : goal.returns-then-not-emit
returns-then-not-emit c = ended_short c.args.c c.loop-j.invariant.2 (emit_no End c.emit.result c.emit.ensures (c.if-not-emit.true)) (omega arith)

pub loop-j-preserved : goal.loop-j-preserved
loop-j-preserved c = (omega arith, c.emit.auto.out ∙ c.loop-j.invariant.1, ended_more c.loop-j.invariant.2 (emit_yes c.emit.result c.emit.ensures (c.if-not-emit.false)))

pub overflow_add-result : goal.overflow_add-result
overflow_add-result c = omega (arith, c.loop-j.invariant.2.wrote.inside, length_words c.loop-j.out)

pub returns : goal.returns
returns c = ended_all c.loop-j.invariant.2 (omega arith)
