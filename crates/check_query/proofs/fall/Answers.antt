-- One less, if there is one. Assumes nothing.
use mathlib.Core.Path.{◌∙◌}
use Rattle.check_query.specs.Steps.{fall_is}
use Rattle.check_query.proofs.fall.Goals as goal

pub returns : goal.returns
returns c = c.saturating_sub.ensures ∙ fall_is c.args.d
