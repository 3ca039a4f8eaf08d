-- A word at a time. Assumes nothing.
use mathlib.Core.Path.{ap, sym}
use Rattle.check_words.specs.Frees.{word_below}
use Rattle.check_numbers.proofs.below.Goals as goal

pub returns-in-Free : goal.returns-in-Free
returns-in-Free c = sym (ap (word_below c.args.n) c.in-Free.is)
