use mathlib.Core.Path.{sym, ◌∙◌, subst}
use Prim.Native.Nat.{◌+◌}
use native.Mathlib.Omega.{arith}
use Rattle.mem_numbers.specs.Numbers.{triples, length_triples}
use Rattle.read_phrases.specs.Codes.{kind_inside}
use Rattle.read_phrases.specs.Phrases.{VariablesTo}
use Rattle.read_phrases.proofs.Reading.{arguments_without, arguments_odd, arguments_unclosed, arguments_closed}
use Rattle.read_ends.proofs.arguments_end.Goals as goal

pub returns-then-kind_at-ne3 : goal.returns-then-kind_at-ne3
returns-then-kind_at-ne3 c = arguments_without _ _ (λ e. c.if-kind_at-ne3.true (c.kind_at.ensures ∙ e))

pub overflow_add-at : goal.overflow_add-at
overflow_add-at c = let i = kind_inside (triples c.args.codes.now) c.args.at (omega (arith, sym c.kind_at.ensures, c.if-kind_at-ne3.false)) in omega (arith, length_triples c.args.codes.now)

pub returns-then-kind_at-ne4 : goal.returns-then-kind_at-ne4
returns-then-kind_at-ne4 c = arguments_unclosed (triples c.args.codes.now) c.args.at _ _ (sym c.kind_at.ensures ∙ c.if-kind_at-ne3.false) (subst (VariablesTo (triples c.args.codes.now) (c.args.at + 1)) c.in-To.is c.variables_end-p.ensures) (λ e. c.if-kind_at-ne4.true (c.kind_at-in-To.ensures ∙ e))

pub overflow_add-result : goal.overflow_add-result
overflow_add-result c = let i = kind_inside (triples c.args.codes.now) c.in-To.rest (omega (arith, sym c.kind_at-in-To.ensures, c.if-kind_at-ne4.false)) in omega (arith, length_triples c.args.codes.now)

pub returns-else-kind_at-ne4 : goal.returns-else-kind_at-ne4
returns-else-kind_at-ne4 c = arguments_closed (triples c.args.codes.now) c.args.at _ _ (sym c.kind_at.ensures ∙ c.if-kind_at-ne3.false) (subst (VariablesTo (triples c.args.codes.now) (c.args.at + 1)) c.in-To.is c.variables_end-p.ensures) (sym c.kind_at-in-To.ensures ∙ c.if-kind_at-ne4.false)

pub returns-in-Odd : goal.returns-in-Odd
returns-in-Odd c = arguments_odd (triples c.args.codes.now) c.args.at (sym c.kind_at.ensures ∙ c.if-kind_at-ne3.false) (subst (VariablesTo (triples c.args.codes.now) (c.args.at + 1)) c.in-Odd.is c.variables_end-p.ensures)
