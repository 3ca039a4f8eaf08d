-- By the row of the table. Assumes nothing.
use mathlib.Core.Path.{ap, sym, ◌∙◌}
use Rattle.akl.specs.Table.{rule_row}
use Rattle.step_decide.proofs.Outcomes.{row_no, kind_is}
use Rattle.step_decide.proofs.kind_taken.Goals as goal

pub returns-in-Absent : goal.returns-in-Absent
returns-in-Absent c = kind_is (rule_row c.args.r) c.row_of.result 10 c.row_of.ensures (ap row_no (sym c.in-Absent.is))

pub returns-in-Rule : goal.returns-in-Rule
returns-in-Rule c = kind_is (rule_row c.args.r) c.row_of.result c.takes_no.result c.row_of.ensures (c.takes_no.ensures.0 ∙ ap row_no (sym c.in-Rule.is))
