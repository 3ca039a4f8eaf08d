use mathlib.Core.Path.{refl, sym, ◌∙◌, subst}
use Prim.Native.Nat.{◌+◌}
use native.Mathlib.Omega.{arith}
use Rattle.mem_numbers.specs.Numbers.{triples, length_triples}
use Rattle.read_phrases.specs.Codes.{kind_inside}
use Rattle.read_phrases.specs.Phrases.{ArgumentsTo}
use Rattle.read_simples.proofs.Atoms.{equation_same, equation_no_label, equation_odd, equation_made}
use Rattle.read_simples.proofs.equation_at.Goals as goal

pub overflow_add-i : goal.overflow_add-i
overflow_add-i c = let i = kind_inside (triples c.args.codes.now) c.args.at (omega (arith, c.requires.var)) in omega (arith, length_triples c.args.codes.now)

pub overflow_add-result : goal.overflow_add-result
overflow_add-result c = let i = kind_inside (triples c.args.codes.now) (c.args.at + 2) (omega (arith, sym c.kind_at-k.ensures, c.if-k-eq2.true)) in omega (arith, length_triples c.args.codes.now)

pub returns-then-k-eq2 : goal.returns-then-k-eq2
returns-then-k-eq2 c = equation_same (triples c.args.codes.now) c.args.at c.requires (sym c.kind_at-k.ensures ∙ c.if-k-eq2.true) _ _ _ c.number_at-var.ensures c.number_at-right.ensures refl

pub returns-then-k-gt2 : goal.returns-then-k-gt2
returns-then-k-gt2 c = equation_no_label (triples c.args.codes.now) c.args.at c.requires (omega (arith, c.kind_at-k.ensures, c.if-k-gt2.true))

pub overflow_add-i-2 : goal.overflow_add-i-2
overflow_add-i-2 c = let i = kind_inside (triples c.args.codes.now) (c.args.at + 2) (omega (arith, sym c.kind_at-k.ensures, c.if-k-gt2.false)) in omega (arith, length_triples c.args.codes.now)

pub overflow_add-result-in-To : goal.overflow_add-result-in-To
overflow_add-result-in-To c = let i = kind_inside (triples c.args.codes.now) (c.args.at + 2) (omega (arith, sym c.kind_at-k.ensures, c.if-k-gt2.false)) in omega (arith, length_triples c.args.codes.now)

pub returns-in-To : goal.returns-in-To
returns-in-To c = equation_made (triples c.args.codes.now) c.args.at c.requires (omega (arith, c.kind_at-k.ensures, c.if-k-eq2.false, c.if-k-gt2.false)) _ _ _ _ _ (subst (ArgumentsTo (triples c.args.codes.now) (c.args.at + 2 + 1)) c.in-To.is c.arguments_end-p.ensures) c.number_at-var.ensures c.number_at-label.ensures refl

pub returns-in-Odd : goal.returns-in-Odd
returns-in-Odd c = equation_odd (triples c.args.codes.now) c.args.at c.requires (omega (arith, c.kind_at-k.ensures, c.if-k-eq2.false, c.if-k-gt2.false)) (subst (ArgumentsTo (triples c.args.codes.now) (c.args.at + 2 + 1)) c.in-Odd.is c.arguments_end-p.ensures)
