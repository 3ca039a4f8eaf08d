-- By the rule's row. Assumes nothing.
use mathlib.Core.Path.{sym, ◌∙◌}
use native.Mathlib.Omega.{arith}
use Rattle.mem_words.specs.Words.{words}
use Rattle.step_unrest.proofs.Rows.{no_row, not_determinate, not_taken, not_held, held_there, can_apply, place_low}
use Rattle.step_unrest.proofs.disturbed_by.Goals as goal

pub returns-then-n-k : goal.returns-then-n-k
returns-then-n-k c = (not_taken (words c.args.t.now) (words c.args.d.now) c.args.g c.args.j c.args.r _ _ _ (sym c.in-Rule.is ∙ c.row_of-row.ensures) c.args.k c.takes_no-n.result c.in-Determinate.is c.requires.2 c.takes_no-n.ensures.0 (λ z. omega (arith, z)), c.requires.0)

pub rewrites-requires : goal.rewrites-requires
rewrites-requires c = place_low (words c.args.t.now) (words c.args.d.now) c.args.g c.args.j c.requires.1

pub applies-requires : goal.applies-requires
applies-requires c = (c.requires.0, can_apply (words c.args.t.now) (words c.args.d.now) c.args.g c.args.j c.args.r _ _ _ (sym c.in-Rule.is ∙ c.row_of-row.ensures) c.args.k c.takes_no-n.result c.in-Determinate.is c.requires.2 c.takes_no-n.ensures.0 (omega arith) c.requires.1)

pub returns-then-rewrites : goal.returns-then-rewrites
returns-then-rewrites c = (held_there (words c.args.t.now) (words c.args.d.now) c.args.g c.args.j c.args.r _ _ _ (sym c.in-Rule.is ∙ c.row_of-row.ensures) c.args.k c.takes_no-n.result c.in-Determinate.is c.requires.2 c.takes_no-n.ensures.0 (omega arith) c.rewrites.result c.applies.result c.rewrites.ensures c.if-rewrites.true c.applies.ensures.0, c.applies.ensures.1)

pub returns-in-Absent : goal.returns-in-Absent
returns-in-Absent c = (no_row (words c.args.t.now) (words c.args.d.now) c.args.g c.args.j c.args.r (sym c.in-Absent.is ∙ c.row_of-row.ensures), c.requires.0)

pub returns-in-Nondeterminate : goal.returns-in-Nondeterminate
returns-in-Nondeterminate c = (not_determinate (words c.args.t.now) (words c.args.d.now) c.args.g c.args.j c.args.r _ _ _ (sym c.in-Rule.is ∙ c.row_of-row.ensures) c.in-Nondeterminate.is, c.requires.0)

pub returns-else-rewrites : goal.returns-else-rewrites
returns-else-rewrites c = (not_held (words c.args.t.now) (words c.args.d.now) c.args.g c.args.j c.args.r _ _ _ (sym c.in-Rule.is ∙ c.row_of-row.ensures) c.args.k c.takes_no-n.result c.in-Determinate.is c.requires.2 c.takes_no-n.ensures.0 (omega arith) c.rewrites.result c.rewrites.ensures c.if-rewrites.false, c.requires.0)
