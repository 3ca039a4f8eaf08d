use mathlib.Core.Path.{sym, ◌∙◌, subst}
use native.Mathlib.Omega.{arith}
use Rattle.mem_numbers.specs.Numbers.{triples, length_triples}
use Rattle.read_phrases.specs.Codes.{kind_inside}
use Rattle.read_phrases.specs.Phrases.{VariablesTo}
use Rattle.read_phrases.proofs.Reading.{hidden_without, hidden_equals, hidden_odd, hidden_uncolon, hidden_colon}
use Rattle.read_ends.proofs.hidden_end.Goals as goal

pub returns-then-kind_at-ne2 : goal.returns-then-kind_at-ne2
returns-then-kind_at-ne2 c = hidden_without _ _ (λ e. c.if-kind_at-ne2.true (c.kind_at.ensures ∙ e))

pub overflow_add-at : goal.overflow_add-at
overflow_add-at c = let i = kind_inside (triples c.args.codes.now) c.args.at (omega (arith, sym c.kind_at.ensures, c.if-kind_at-ne2.false)) in omega (arith, length_triples c.args.codes.now)

pub returns-then-kind_at-eq9 : goal.returns-then-kind_at-eq9
returns-then-kind_at-eq9 c = hidden_equals _ _ (sym c.kind_at.ensures ∙ c.if-kind_at-ne2.false) (sym c.kind_at-2.ensures ∙ c.if-kind_at-eq9.true)

pub returns-then-kind_at-ne7 : goal.returns-then-kind_at-ne7
returns-then-kind_at-ne7 c = hidden_uncolon (triples c.args.codes.now) c.args.at _ _ (sym c.kind_at.ensures ∙ c.if-kind_at-ne2.false) (λ e. c.if-kind_at-eq9.false (c.kind_at-2.ensures ∙ e)) (subst (VariablesTo (triples c.args.codes.now) c.args.at) c.in-To.is c.variables_end-p.ensures) (λ e. c.if-kind_at-ne7.true (c.kind_at-in-To.ensures ∙ e))

pub overflow_add-result : goal.overflow_add-result
overflow_add-result c = let i = kind_inside (triples c.args.codes.now) c.in-To.rest (omega (arith, sym c.kind_at-in-To.ensures, c.if-kind_at-ne7.false)) in omega (arith, length_triples c.args.codes.now)

pub returns-else-kind_at-ne7 : goal.returns-else-kind_at-ne7
returns-else-kind_at-ne7 c = hidden_colon (triples c.args.codes.now) c.args.at _ _ (sym c.kind_at.ensures ∙ c.if-kind_at-ne2.false) (λ e. c.if-kind_at-eq9.false (c.kind_at-2.ensures ∙ e)) (subst (VariablesTo (triples c.args.codes.now) c.args.at) c.in-To.is c.variables_end-p.ensures) (sym c.kind_at-in-To.ensures ∙ c.if-kind_at-ne7.false)

pub returns-in-Odd : goal.returns-in-Odd
returns-in-Odd c = hidden_odd (triples c.args.codes.now) c.args.at (sym c.kind_at.ensures ∙ c.if-kind_at-ne2.false) (λ e. c.if-kind_at-eq9.false (c.kind_at-2.ensures ∙ e)) (subst (VariablesTo (triples c.args.codes.now) c.args.at) c.in-Odd.is c.variables_end-p.ensures)
