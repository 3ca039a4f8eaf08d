-- By cases. Assumes nothing.
use mathlib.Core.Path.{sym, ◌∙◌}
use lib.ListN.{drop}
use Rattle.mem_words.specs.Words.{words}
use Rattle.check_words.specs.Frees.{is_and}
use Rattle.check_query.specs.Steps.{no_box, inner_box, outer_box}
use Rattle.check_query.proofs.opening.Goals as goal

pub returns-then-not-boxes : goal.returns-then-not-boxes
returns-then-not-boxes c = no_box c.args.q (is_and c.args.k) c.args.d (drop c.args.i (words c.args.ws.now)) (sym c.boxes.ensures ∙ c.if-not-boxes.true)

pub returns-then-d-ne0 : goal.returns-then-d-ne0
returns-then-d-ne0 c = inner_box c.args.q (is_and c.args.k) c.args.d (drop c.args.i (words c.args.ws.now)) c.if-d-ne0.true

pub returns : goal.returns
returns c = c.holds_all.ensures ∙ outer_box c.args.q (is_and c.args.k) c.args.d (words c.args.ws.now) c.args.i (sym c.boxes.ensures ∙ c.if-not-boxes.false) c.if-d-ne0.false
