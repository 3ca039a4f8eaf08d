use mathlib.Core.Path.{refl, subst}
use Prim.Native.Nat.{◌+◌}
use native.Mathlib.Omega.{arith}
use Rattle.mem_numbers.specs.Numbers.{triples, length_triples}
use Rattle.read_phrases.specs.Codes.{kind_inside}
use Rattle.read_phrases.specs.Phrases.{ArgumentsTo}
use Rattle.read_simples.proofs.Atoms.{named_odd, true_odd, true_read, fail_odd, fail_read, program_read}
use Rattle.read_simples.proofs.named_at.Goals as goal

pub overflow_add-at : goal.overflow_add-at
overflow_add-at c = let i = kind_inside (triples c.args.codes.now) c.args.at (omega (arith, c.requires.name)) in omega (arith, length_triples c.args.codes.now)

pub returns-then-count-ne0 : goal.returns-then-count-ne0
returns-then-count-ne0 c = true_odd (triples c.args.codes.now) c.args.at c.requires.name _ _ _ (subst (ArgumentsTo (triples c.args.codes.now) (c.args.at + 1)) c.in-To.is c.arguments_end-p.ensures) c.number_at-name.ensures c.if-name-eq4.true c.if-count-ne0.true

pub returns-then-name-eq4 : goal.returns-then-name-eq4
returns-then-name-eq4 c = true_read (triples c.args.codes.now) c.args.at c.requires.name _ _ _ (subst (ArgumentsTo (triples c.args.codes.now) (c.args.at + 1)) c.in-To.is c.arguments_end-p.ensures) c.number_at-name.ensures c.if-name-eq4.true c.if-count-ne0.false

pub returns-then-count-ne0-2 : goal.returns-then-count-ne0-2
returns-then-count-ne0-2 c = fail_odd (triples c.args.codes.now) c.args.at c.requires.name _ _ _ (subst (ArgumentsTo (triples c.args.codes.now) (c.args.at + 1)) c.in-To.is c.arguments_end-p.ensures) c.number_at-name.ensures c.if-name-eq4.false c.if-name-eq8.true c.if-count-ne0-2.true

pub returns-then-name-eq8 : goal.returns-then-name-eq8
returns-then-name-eq8 c = fail_read (triples c.args.codes.now) c.args.at c.requires.name _ _ _ (subst (ArgumentsTo (triples c.args.codes.now) (c.args.at + 1)) c.in-To.is c.arguments_end-p.ensures) c.number_at-name.ensures c.if-name-eq4.false c.if-name-eq8.true c.if-count-ne0-2.false

pub overflow_add-result : goal.overflow_add-result
overflow_add-result c = let i = kind_inside (triples c.args.codes.now) c.args.at (omega (arith, c.requires.name)) in omega (arith, length_triples c.args.codes.now)

pub returns-else-name-eq8 : goal.returns-else-name-eq8
returns-else-name-eq8 c = program_read (triples c.args.codes.now) c.args.at c.requires.name _ _ _ (subst (ArgumentsTo (triples c.args.codes.now) (c.args.at + 1)) c.in-To.is c.arguments_end-p.ensures) c.number_at-name.ensures c.if-name-eq4.false c.if-name-eq8.false _ refl

pub returns-in-Odd : goal.returns-in-Odd
returns-in-Odd c = named_odd (triples c.args.codes.now) c.args.at c.requires.name (subst (ArgumentsTo (triples c.args.codes.now) (c.args.at + 1)) c.in-Odd.is c.arguments_end-p.ensures)
