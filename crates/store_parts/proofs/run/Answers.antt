-- The words up to j are counted. Assumes nothing.
use mathlib.Core.Path.{◌≡◌, subst}
use Prim.Native.Nat.{ℕ}
use native.Mathlib.Omega.{arith}
use Rattle.mem_words.specs.Words.{words}
use Rattle.store_parts.specs.Counts.{Counted, word_few, counted_none, counted_next}
use Rattle.store_parts.proofs.run.Goals as goal

pub loop-j-init : goal.loop-j-init
loop-j-init c = (c.requires.from, counted_none (words c.args.ws.now) c.args.m c.args.i (omega (arith, c.requires.from, c.requires.within)))

pub get-w-requires : goal.get-w-requires
get-w-requires c = omega (arith, c.requires.within)

pub overflow_add-r : goal.overflow_add-r
overflow_add-r c = omega (arith, c.loop-j.invariant.1.small, c.requires.within, c.requires.few, word_few c.loop-j.a c.get-w.result c.get-w.ensures.small, c.word_parts-r.ensures)

pub loop-j-preserved : goal.loop-j-preserved
loop-j-preserved c = (omega arith, counted_next (words c.args.ws.now) c.args.m c.loop-j.a c.behind_word-a.result c.args.i c.loop-j.r c.word_parts-r.result c.loop-j.j c.get-w.result (omega (arith, c.requires.within)) c.loop-j.invariant.1 c.get-w.ensures c.word_parts-r.ensures c.behind_word-a.ensures)

pub returns : goal.returns
returns c = record { counted = let e : c.loop-j.j ≡ c.args.e = omega (arith, c.loop-j.invariant.0) in subst (λ (k : ℕ). Counted (words c.args.ws.now) c.args.m c.args.i c.loop-j.a c.loop-j.r k) e c.loop-j.invariant.1 }
