use mathlib.Core.Path.{sym, ◌∙◌}
use native.Mathlib.Omega.{arith}
use Rattle.std.proofs.lemmas.Result.{err_from_is_err_and}
use Rattle.mem_numbers.specs.Numbers.{triples, length_triples}
use Rattle.read_phrases.specs.Codes.{kind_inside}
use Rattle.read_grammar.proofs.Querying.{query_err, query_unstopped, query_more, query_whole}
use Rattle.read_shapes.proofs.query_is.Goals as goal

pub statement_end-requires : goal.statement_end-requires
statement_end-requires c = c.requires

pub returns-then-kind_at-ne6 : goal.returns-then-kind_at-ne6
returns-then-kind_at-ne6 c = query_unstopped (triples c.args.codes.now) c.args.stack.now _ c.in_ok-rest.ensures (λ e. c.if-kind_at-ne6.true (c.kind_at.ensures ∙ e))

pub overflow_add-rest : goal.overflow_add-rest
overflow_add-rest c = let i = kind_inside (triples c.args.codes.now) c.in_ok-rest.rest (omega (arith, sym c.kind_at.ensures, c.if-kind_at-ne6.false)) in omega (arith, length_triples c.args.codes.now)

pub returns-then-rest-count : goal.returns-then-rest-count
returns-then-rest-count c = query_more (triples c.args.codes.now) c.args.stack.now _ c.in_ok-rest.ensures (sym c.kind_at.ensures ∙ c.if-kind_at-ne6.false) (omega (arith, c.count.ensures.is))

pub returns : goal.returns
returns c = query_whole (triples c.args.codes.now) c.args.stack.now _ c.in_ok-rest.ensures (sym c.kind_at.ensures ∙ c.if-kind_at-ne6.false) (omega (arith, c.count.ensures.is))

pub returns-in_err-rest : goal.returns-in_err-rest
returns-in_err-rest c = let p = err_from_is_err_and c.from_residual.result c.from_residual.ensures.1 in rw (p.1, p.2) (query_err (triples c.args.codes.now) c.args.stack.now _ c.in_err-rest.ensures)
