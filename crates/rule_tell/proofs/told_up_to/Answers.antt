-- By cases. Assumes nothing.
use mathlib.Core.Path.{ap, sym, ◌∙◌}
use mathlib.Core.Bool.{Bool, cond}
use Rattle.rule_tell.proofs.told_up_to.Goals as goal

pub returns-then-starts_true : goal.returns-then-starts_true
returns-then-starts_true c = ap (λ (b : Bool). cond b c.args.j c.args.e) (sym c.if-starts_true.true ∙ c.starts_true.ensures)

pub returns-else-starts_true : goal.returns-else-starts_true
returns-else-starts_true c = ap (λ (b : Bool). cond b c.args.j c.args.e) (sym c.if-starts_true.false ∙ c.starts_true.ensures)
