use mathlib.Core.Path.{subst, sym, ◌∙◌}
use Prim.Native.Nat.{◌+◌}
use native.Mathlib.Omega.{arith}
use Rattle.mem_numbers.specs.Numbers.{triples, length_triples}
use Rattle.read_phrases.specs.Codes.{kind_inside}
use Rattle.read_phrases.specs.Phrases.{ArgumentsTo}
use Rattle.read_definitions.proofs.Opens.{opening_odd, opening_true, opening_fail, opening_arguments, opening_many, opening_undefined, opening_to}
use Rattle.read_definitions.proofs.before_body.Goals as goal

pub returns-then-kind_at-ne0 : goal.returns-then-kind_at-ne0
returns-then-kind_at-ne0 c = opening_odd (triples c.args.codes.now) c.args.at (λ e. c.if-kind_at-ne0.true (c.kind_at.ensures ∙ e))

pub returns-then-name-eq4 : goal.returns-then-name-eq4
returns-then-name-eq4 c = opening_true (triples c.args.codes.now) c.args.at c.number_at-name.result (sym c.kind_at.ensures ∙ c.if-kind_at-ne0.false) c.number_at-name.ensures (omega arith)

pub returns-then-name-eq8 : goal.returns-then-name-eq8
returns-then-name-eq8 c = opening_fail (triples c.args.codes.now) c.args.at c.number_at-name.result (sym c.kind_at.ensures ∙ c.if-kind_at-ne0.false) c.number_at-name.ensures (omega arith)

pub overflow_add-at : goal.overflow_add-at
overflow_add-at c = omega (arith, kind_inside (triples c.args.codes.now) c.args.at (omega (arith, c.kind_at.ensures, c.if-kind_at-ne0.false)), length_triples c.args.codes.now)

pub returns-then-count-gt8 : goal.returns-then-count-gt8
returns-then-count-gt8 c = opening_many (triples c.args.codes.now) c.args.at c.number_at-name.result (sym c.kind_at.ensures ∙ c.if-kind_at-ne0.false) c.number_at-name.ensures (λ e. omega arith) (λ e. omega arith) c.in-To.rest c.in-To.count (subst (ArgumentsTo (triples c.args.codes.now) (c.args.at + 1)) c.in-To.is c.arguments_end-p.ensures) (omega arith)

pub returns-then-kind_at-ne8 : goal.returns-then-kind_at-ne8
returns-then-kind_at-ne8 c = opening_undefined (triples c.args.codes.now) c.args.at c.number_at-name.result (sym c.kind_at.ensures ∙ c.if-kind_at-ne0.false) c.number_at-name.ensures (λ e. omega arith) (λ e. omega arith) c.in-To.rest c.in-To.count (subst (ArgumentsTo (triples c.args.codes.now) (c.args.at + 1)) c.in-To.is c.arguments_end-p.ensures) (λ e. c.if-kind_at-ne8.true (c.kind_at-in-To.ensures ∙ e))

pub overflow_add-result : goal.overflow_add-result
overflow_add-result c = omega (arith, kind_inside (triples c.args.codes.now) c.in-To.rest (omega (arith, c.kind_at-in-To.ensures, c.if-kind_at-ne8.false)), length_triples c.args.codes.now)

pub returns-else-kind_at-ne8 : goal.returns-else-kind_at-ne8
returns-else-kind_at-ne8 c = opening_to (triples c.args.codes.now) c.args.at c.number_at-name.result (sym c.kind_at.ensures ∙ c.if-kind_at-ne0.false) c.number_at-name.ensures (λ e. omega arith) (λ e. omega arith) c.in-To.rest c.in-To.count (subst (ArgumentsTo (triples c.args.codes.now) (c.args.at + 1)) c.in-To.is c.arguments_end-p.ensures) (omega arith) (sym c.kind_at-in-To.ensures ∙ c.if-kind_at-ne8.false)

pub returns-in-Odd : goal.returns-in-Odd
returns-in-Odd c = opening_arguments (triples c.args.codes.now) c.args.at c.number_at-name.result (sym c.kind_at.ensures ∙ c.if-kind_at-ne0.false) c.number_at-name.ensures (λ e. omega arith) (λ e. omega arith) (subst (ArgumentsTo (triples c.args.codes.now) (c.args.at + 1)) c.in-Odd.is c.arguments_end-p.ensures)
