use mathlib.Core.Path.{refl, sym, ◌∙◌}
use native.Mathlib.Omega.{arith}
use Rattle.mem_words.specs.Words.{words, length_words}
use Rattle.read_emits.specs.TheirContracts.{compacted_none, compacted_drop, compacted_keep, compacted_all}
use Rattle.read_compact.proofs.compact.Goals as goal

pub loop-i-init : goal.loop-i-init
loop-i-init c = (omega arith, refl, compacted_none (words c.args.out.now))

pub get-w-requires : goal.get-w-requires
get-w-requires c = omega (arith, c.loop-i.invariant.2.long)

pub put-requires : goal.put-requires
put-requires c = record { inside = omega (arith, c.loop-i.invariant.2.fewer, c.loop-i.invariant.2.long); small = c.get-w.ensures.small }

pub overflow_add-r : goal.overflow_add-r
overflow_add-r c = omega (arith, c.loop-i.invariant.2.fewer, length_words c.args.out.now)

pub loop-i-preserved-then-empty : goal.loop-i-preserved-then-empty
loop-i-preserved-then-empty c = (omega arith, c.loop-i.invariant.1, compacted_drop c.loop-i.invariant.2 c.get-w.result c.get-w.ensures.is (omega arith) (sym c.empty.ensures ∙ c.if-empty.true))

pub loop-i-preserved : goal.loop-i-preserved
loop-i-preserved c = (omega arith, c.put.auto.b ∙ c.loop-i.invariant.1, compacted_keep c.loop-i.invariant.2 c.get-w.result c.get-w.ensures.is (omega arith) (sym c.empty.ensures ∙ c.if-empty.false) c.put.ensures)

pub returns : goal.returns
returns c = compacted_all c.loop-i.invariant.2 (omega arith)
