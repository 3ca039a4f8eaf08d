-- All is forgotten, and the bindings counted. Assumes nothing.
use mathlib.Core.Path.{sym, ◌∙◌}
use native.Mathlib.Omega.{arith}
use Rattle.mem_numbers.specs.Numbers.{triples}
use Rattle.mem_parts.specs.Parts.{outside_then}
use Rattle.work_tables.specs.Tables.{cells_of, pos_of, log_of, laid_after}
use Rattle.answer_visit.proofs.Searching.{shown_to}
use Rattle.answer_length.proofs.Lengthening.{none_long, line_at}
use Rattle.answer_length.proofs.line_length.Goals as goal

pub forget-requires : goal.forget-requires
forget-requires c = c.requires.0

pub plus-requires : goal.plus-requires
plus-requires c = omega (arith, c.requires.2)

pub returns-then-n-eq0 : goal.returns-then-n-eq0
returns-then-n-eq0 c = (none_long (triples c.args.table.now) (log_of c.args.used c.args.w.now) (pos_of c.args.w.now) (cells_of c.args.w.now) (triples c.args.vars.now) c.args.m (sym c.count-n.ensures.is ∙ c.if-n-eq0.true) c.plus.ensures, c.forget.ensures.2)

pub bindings-requires : goal.bindings-requires
bindings-requires c = (laid_after c.requires.0 c.forget.ensures.2, c.requires.1, c.requires.2, shown_to c.args.used c.requires.1 c.requires.0 c.forget.ensures.2 c.requires.3, c.requires.4, c.forget.ensures.0, c.forget.ensures.1, c.count-n.ensures.is, omega (arith, c.if-n-eq0.false))

pub returns : goal.returns
returns c = (line_at c.args.used c.requires.1 c.requires.0 c.forget.ensures.2 (triples c.args.table.now) (triples c.args.vars.now) c.args.m c.bindings.ensures.0, outside_then c.forget.ensures.2 c.bindings.ensures.1)
