use native.Mathlib.Omega.{arith}
use Prim.Native.Nat.{◌*◌}
use mathlib.Core.Path.{refl, sym}
use lib.Seq.{length-take-le}
use lib.ListN.{take}
use Rattle.mem_words.specs.Words.{length_words}
use Rattle.start_settle.specs.Settled.{store_short, working_short, too_many, written, first_counted}
use borrow.Author.Rules.{rules}
use Rattle.start_settle.proofs.settle.Goals as goal

pub returns-then-store-lt245853 : goal.returns-then-store-lt245853
returns-then-store-lt245853 c = store_short (omega arith) refl

pub returns-then-w-lt524288 : goal.returns-then-w-lt524288
returns-then-w-lt524288 c = working_short (omega arith) (omega arith) refl

pub slice_bounds-parts-end : goal.slice_bounds-parts-end
slice_bounds-parts-end c = sym (length-take-le (3 * c.args.b) c.args.goal.now (omega (arith, c.requires.goal, length_words c.args.goal.now)))

pub parts-p-requires : goal.parts-p-requires
parts-p-requires c = omega (arith, length_words (take (3 * c.args.b) c.args.goal.now), length-take-le (3 * c.args.b) c.args.goal.now (omega (arith, c.requires.goal, length_words c.args.goal.now)), c.requires.goal, c.requires.short)

pub overflow_add-p : goal.overflow_add-p
overflow_add-p c = omega (arith, c.parts-p.ensures.1, length_words (take (3 * c.args.b) c.args.goal.now), length-take-le (3 * c.args.b) c.args.goal.now (omega (arith, c.requires.goal, length_words c.args.goal.now)), c.requires.goal, c.requires.short, c.requires.few_variables)

pub returns-then-p-v-gt2046 : goal.returns-then-p-v-gt2046
returns-then-p-v-gt2046 c =
    let f = first_counted c.args.goal.now c.args.b c.args.v c.parts-p.result (omega (arith, c.requires.goal, length_words c.args.goal.now)) c.parts-p.ensures.0 in
    too_many (omega arith) (omega arith) (omega (arith, f)) refl

pub lay-requires : goal.lay-requires
lay-requires c =
    let p = c.requires in
    let f = first_counted c.args.goal.now c.args.b c.args.v c.parts-p.result (omega (arith, p.goal, length_words c.args.goal.now)) c.parts-p.ensures.0 in
    record { store = omega arith; names = p.names; rules = p.rules; together = p.together; variables = p.variables; few_variables = p.few_variables; goal = p.goal; few_words = p.fits (omega (arith, f)); good = p.good }

pub returns : goal.returns
returns c =
    let f = first_counted c.args.goal.now c.args.b c.args.v c.parts-p.result (omega (arith, c.requires.goal, length_words c.args.goal.now)) c.parts-p.ensures.0 in
    written (omega arith) (omega arith) (omega (arith, f)) c.lay.ensures
