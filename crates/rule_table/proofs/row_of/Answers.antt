-- By its index in the table. Assumes nothing.
use native.Mathlib.Omega.{arith}
use Rattle.rule_table.proofs.Table.{row_there, row_zero, row_past}
use Rattle.rule_table.proofs.row_of.Goals as goal

pub returns-then-r-eq0 : goal.returns-then-r-eq0
returns-then-r-eq0 c = row_zero c.args.r (omega arith)

pub returns-then-r-gt14 : goal.returns-then-r-gt14
returns-then-r-gt14 c = row_past c.args.r (omega arith)

pub returns : goal.returns
returns c = row_there c.args.r _ (λ h. omega arith) (omega arith)
