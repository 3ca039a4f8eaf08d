-- A word at a time. Assumes nothing.
use mathlib.Core.Path.{ap, sym, ◌∙◌}
use lib.ListN.{drop}
use Rattle.mem_words.specs.declared.Word.{Word}
use Rattle.mem_words.specs.Words.{words}
use Rattle.check_words.specs.Query.{word_passes}
use Rattle.check_query.proofs.passes.Goals as goal

pub returns-in-Free : goal.returns-in-Free
returns-in-Free c = c.local.ensures ∙ sym (ap (λ (w : Word). word_passes c.args.q c.args.l c.args.d w (drop c.args.i (words c.args.ws.now))) c.in-Free.is)

pub returns-in-Place : goal.returns-in-Place
returns-in-Place c = c.opening.ensures ∙ sym (ap (λ (w : Word). word_passes c.args.q c.args.l c.args.d w (drop c.args.i (words c.args.ws.now))) c.in-Place.is)
