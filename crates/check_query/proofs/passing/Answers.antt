-- A word at a time. Assumes nothing.
use mathlib.Core.Path.{ap, sym, ◌∙◌}
use Rattle.check_words.specs.Query.{locals_after}
use Rattle.check_query.proofs.passing.Goals as goal

pub returns-in-Inner : goal.returns-in-Inner
returns-in-Inner c = c.inner.ensures ∙ sym (ap (locals_after c.args.l c.args.d) c.in-Inner.is)
