use mathlib.Core.Path.{sym, ap, ◌∙◌}
use Rattle.store_parts.specs.Counting.{word_parts}
use Rattle.store_parts.proofs.word_parts.Goals as goal

pub returns-in-Num : goal.returns-in-Num
returns-in-Num c = c.number_parts.ensures ∙ ap (word_parts c.args.m) (sym c.in-Num.is)
