-- By the rule's row, and by what the rule asks. Assumes nothing.
use mathlib.Core.Path.{sym, ◌∙◌}
use native.Mathlib.Omega.{arith}
use Rattle.mem_words.specs.Words.{words}
use Rattle.step_unrest.proofs.Tabled.{absent_rests, nondeterminate_rests, other_rests, asked_moves}
use Rattle.step_unrest.proofs.moved_by.Goals as goal

pub returns-then-n-k : goal.returns-then-n-k
returns-then-n-k c = other_rests (words c.args.t.now) c.args.j c.args.r _ _ _ (sym c.in-Rule.is ∙ c.row_of-row.ensures) c.in-Determinate.is c.args.k c.takes_no-n.result c.requires.1 c.takes_no-n.ensures.0 (λ z. omega (arith, z))

pub applies_at_once-requires : goal.applies_at_once-requires
applies_at_once-requires c = c.requires.0

pub returns-in-Absent : goal.returns-in-Absent
returns-in-Absent c = absent_rests (words c.args.t.now) c.args.j c.args.r (sym c.in-Absent.is ∙ c.row_of-row.ensures)

pub returns-in-Nondeterminate : goal.returns-in-Nondeterminate
returns-in-Nondeterminate c = nondeterminate_rests (words c.args.t.now) c.args.j c.args.r _ _ _ (sym c.in-Rule.is ∙ c.row_of-row.ensures) c.in-Nondeterminate.is

pub returns-else-n-k : goal.returns-else-n-k
returns-else-n-k c = asked_moves (words c.args.t.now) c.args.j c.args.r _ _ _ (sym c.in-Rule.is ∙ c.row_of-row.ensures) c.in-Determinate.is c.args.k c.takes_no-n.result c.requires.1 c.takes_no-n.ensures.0 c.applies_at_once.result (omega arith) c.applies_at_once.ensures
