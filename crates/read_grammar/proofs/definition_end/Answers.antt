use mathlib.Core.Path.{sym, ◌∙◌, subst}
use Prim.Native.Nat.{◌+◌}
use native.Mathlib.Omega.{arith}
use Rattle.std.proofs.lemmas.Result.{err_from_is_err_and}
use Rattle.mem_numbers.specs.Numbers.{triples, length_triples}
use Rattle.read_phrases.specs.Codes.{kind_inside}
use Rattle.read_phrases.specs.Phrases.{ArgumentsTo}
use Rattle.read_grammar.proofs.Defining.{definition_odd, definition_true, definition_fail, definition_arguments_odd, definition_undefined, definition_err, definition_unstopped, definition_whole}
use Rattle.read_grammar.proofs.definition_end.Goals as goal

pub returns-then-kind_at-ne0 : goal.returns-then-kind_at-ne0
returns-then-kind_at-ne0 c = definition_odd (triples c.args.codes.now) c.args.stack.now c.args.at (λ e. c.if-kind_at-ne0.true (c.kind_at.ensures ∙ e))

pub returns-then-name-eq4 : goal.returns-then-name-eq4
returns-then-name-eq4 c = definition_true (triples c.args.codes.now) c.args.stack.now c.args.at _ (sym c.kind_at.ensures ∙ c.if-kind_at-ne0.false) c.number_at-name.ensures c.if-name-eq4.true

pub returns-then-name-eq8 : goal.returns-then-name-eq8
returns-then-name-eq8 c = definition_fail (triples c.args.codes.now) c.args.stack.now c.args.at _ (sym c.kind_at.ensures ∙ c.if-kind_at-ne0.false) c.number_at-name.ensures c.if-name-eq8.true

pub overflow_add-at : goal.overflow_add-at
overflow_add-at c = let i = kind_inside (triples c.args.codes.now) c.args.at (omega (arith, sym c.kind_at.ensures, c.if-kind_at-ne0.false)) in omega (arith, length_triples c.args.codes.now)

pub returns-then-kind_at-ne8 : goal.returns-then-kind_at-ne8
returns-then-kind_at-ne8 c = definition_undefined (triples c.args.codes.now) c.args.stack.now c.args.at _ (sym c.kind_at.ensures ∙ c.if-kind_at-ne0.false) c.number_at-name.ensures c.if-name-eq4.false c.if-name-eq8.false _ _ (subst (ArgumentsTo (triples c.args.codes.now) (c.args.at + 1)) c.in-To.is c.arguments_end-p.ensures) (λ e. c.if-kind_at-ne8.true (c.kind_at-in-To.ensures ∙ e))

pub overflow_add-rest : goal.overflow_add-rest
overflow_add-rest c = let i = kind_inside (triples c.args.codes.now) c.in-To.rest (omega (arith, sym c.kind_at-in-To.ensures, c.if-kind_at-ne8.false)) in omega (arith, length_triples c.args.codes.now)

pub statement_end-requires : goal.statement_end-requires
statement_end-requires c = c.requires

pub returns-then-kind_at-ne6 : goal.returns-then-kind_at-ne6
returns-then-kind_at-ne6 c = definition_unstopped (triples c.args.codes.now) c.args.stack.now c.args.at _ (sym c.kind_at.ensures ∙ c.if-kind_at-ne0.false) c.number_at-name.ensures c.if-name-eq4.false c.if-name-eq8.false _ _ (subst (ArgumentsTo (triples c.args.codes.now) (c.args.at + 1)) c.in-To.is c.arguments_end-p.ensures) (sym c.kind_at-in-To.ensures ∙ c.if-kind_at-ne8.false) _ c.in_ok-end-in-To.ensures (λ e. c.if-kind_at-ne6.true (c.kind_at-in-To-2.ensures ∙ e))

pub overflow_add-result : goal.overflow_add-result
overflow_add-result c = let i = kind_inside (triples c.args.codes.now) c.in_ok-end-in-To.end (omega (arith, sym c.kind_at-in-To-2.ensures, c.if-kind_at-ne6.false)) in omega (arith, length_triples c.args.codes.now)

pub returns-else-kind_at-ne6 : goal.returns-else-kind_at-ne6
returns-else-kind_at-ne6 c = definition_whole (triples c.args.codes.now) c.args.stack.now c.args.at _ (sym c.kind_at.ensures ∙ c.if-kind_at-ne0.false) c.number_at-name.ensures c.if-name-eq4.false c.if-name-eq8.false _ _ (subst (ArgumentsTo (triples c.args.codes.now) (c.args.at + 1)) c.in-To.is c.arguments_end-p.ensures) (sym c.kind_at-in-To.ensures ∙ c.if-kind_at-ne8.false) _ c.in_ok-end-in-To.ensures (sym c.kind_at-in-To-2.ensures ∙ c.if-kind_at-ne6.false)

pub returns-in_err-end-in-To : goal.returns-in_err-end-in-To
returns-in_err-end-in-To c = let p = err_from_is_err_and c.from_residual.result c.from_residual.ensures.1 in rw (p.1, p.2) (definition_err (triples c.args.codes.now) c.args.stack.now c.args.at _ (sym c.kind_at.ensures ∙ c.if-kind_at-ne0.false) c.number_at-name.ensures c.if-name-eq4.false c.if-name-eq8.false _ _ (subst (ArgumentsTo (triples c.args.codes.now) (c.args.at + 1)) c.in-To.is c.arguments_end-p.ensures) (sym c.kind_at-in-To.ensures ∙ c.if-kind_at-ne8.false) _ c.in_err-end-in-To.ensures)

pub returns-in-Odd : goal.returns-in-Odd
returns-in-Odd c = definition_arguments_odd (triples c.args.codes.now) c.args.stack.now c.args.at _ (sym c.kind_at.ensures ∙ c.if-kind_at-ne0.false) c.number_at-name.ensures c.if-name-eq4.false c.if-name-eq8.false (subst (ArgumentsTo (triples c.args.codes.now) (c.args.at + 1)) c.in-Odd.is c.arguments_end-p.ensures)
