use mathlib.Core.Path.{refl, ap, sym, ◌∙◌}
use native.Mathlib.Omega.{arith}
use Prim.Native.Nat.{◌/◌}
use Rattle.mem_numbers.specs.Numbers.{shorts, triples, length_triples}
use Rattle.mem_words.specs.Words.{length_words}
use Rattle.start_outcome.proofs.Stored.{can_settle}
use Rattle.start_outcome.proofs.Settling.{settled}
use Rattle.start_texts.proofs.Answers.{few_cells, refused_text, told_read, told_refused, told_short}
use borrow.Author.Rules.{rules}
use Rattle.start_texts.proofs.texts_to_store.Goals as goal

pub put-requires-clause-can : goal.put-requires-clause-can
put-requires-clause-can c =
    let R = told_read c.read-read.ensures.0 _ _ _ _ _ c.in-Read.is in
    record { inside = omega (arith, R.root, R.room.4); small = omega arith }

pub settle-requires : goal.settle-requires
settle-requires c =
    let R = told_read c.read-read.ensures.0 _ _ _ _ _ c.in-Read.is in
    can_settle c.args.program.now c.args.query.now (triples c.read-read.new.cells) (triples c.read-read.new.heads) c.put.new.b c.read-read.new.rules (shorts c.read-read.new.order) c.read-read.new.goal _ _ _ _ _ R
    (few_cells c.args.program.now c.args.query.now (triples c.args.cells.now) (triples c.read-read.new.cells) R.program R.goal c.requires.cells c.requires.short (length_triples c.read-read.new.cells ∙ ap (λ n. n / 3) c.read-read.auto.cells ∙ sym (length_triples c.args.cells.now)) R.reads_query)
    c.put.ensures (λ i. omega (arith, c.slice_known-in-Read-1.given i)) (λ i. omega (arith, c.slice_known-15-1.given i)) (λ i. omega (arith, c.slice_known-17-1.given i))
    (omega (arith, c.requires.goal, length_words c.read-read.new.goal, length_words c.args.goal.now, c.read-read.auto.goal))

pub returns-in-Read : goal.returns-in-Read
returns-in-Read c =
    let R = told_read c.read-read.ensures.0 _ _ _ _ _ c.in-Read.is in
    settled c.args.program.now c.args.query.now (triples c.read-read.new.cells) (triples c.read-read.new.heads) c.put.new.b c.read-read.new.rules (shorts c.read-read.new.order) c.read-read.new.goal _ _ _ _ _ R
    (few_cells c.args.program.now c.args.query.now (triples c.args.cells.now) (triples c.read-read.new.cells) R.program R.goal c.requires.cells c.requires.short (length_triples c.read-read.new.cells ∙ ap (λ n. n / 3) c.read-read.auto.cells ∙ sym (length_triples c.args.cells.now)) R.reads_query)
    c.put.ensures (λ i. omega (arith, c.slice_known-in-Read-1.given i)) (λ i. omega (arith, c.slice_known-15-1.given i)) (λ i. omega (arith, c.slice_known-17-1.given i))
    _ _ _ _ c.settle.ensures

pub returns-in-Refused : goal.returns-in-Refused
returns-in-Refused c = refused_text c.args.program.now c.args.query.now c.args.store.now c.args.w _ c.in-Refused.f refl (told_refused c.read-read.ensures.0 c.in-Refused.f c.in-Refused.is)

pub returns-in-Short : goal.returns-in-Short
returns-in-Short c = absurd (told_short c.read-read.ensures.0 c.in-Short.is c.requires.ample)
