-- The numbers are cleared, and the bindings written. Assumes nothing.
use mathlib.Core.Path.{sym, ◌∙◌}
use native.Mathlib.Omega.{arith}
use Rattle.mem_numbers.specs.Numbers.{triples}
use Rattle.mem_parts.specs.Parts.{outside_then}
use Rattle.work_tables.specs.Tables.{cells_of, pos_of, log_of, laid_after}
use Rattle.answer_line.proofs.Lining.{line_none, line_at, shown_to}
use Rattle.answer_line.proofs.line.Goals as goal

pub clear-requires : goal.clear-requires
clear-requires c = c.requires.0

pub returns-then-n-eq0 : goal.returns-then-n-eq0
returns-then-n-eq0 c = (line_none (triples c.args.table.now) (log_of c.args.used c.args.w.now) (pos_of c.args.w.now) (cells_of c.args.w.now) (triples c.args.vars.now) (sym c.count-n.ensures.is ∙ c.if-n-eq0.true) c.truth.ensures, c.clear.ensures.1)

pub bindings-requires : goal.bindings-requires
bindings-requires c = (laid_after c.requires.0 c.clear.ensures.1, c.requires.1, shown_to c.args.used c.requires.1 c.requires.0 c.clear.ensures.1 c.requires.2, c.requires.3, c.clear.ensures.0, c.count-n.ensures.is, omega (arith, c.if-n-eq0.false))

pub returns : goal.returns
returns c = (line_at c.args.used c.requires.1 c.requires.0 c.clear.ensures.1 (triples c.args.table.now) (triples c.args.vars.now) c.bindings.ensures.0, outside_then c.clear.ensures.1 c.bindings.ensures.1)
