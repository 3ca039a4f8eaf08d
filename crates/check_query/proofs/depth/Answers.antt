-- A word at a time. Assumes nothing.
use mathlib.Core.Path.{ap, sym, ◌∙◌}
use mathlib.Core.Bool.{Bool}
use Rattle.check_words.specs.Query.{up, depth_after}
use Rattle.check_query.proofs.depth.Goals as goal

pub returns-in-Place : goal.returns-in-Place
returns-in-Place c = c.rise.ensures ∙ ap (λ (b : Bool). up b c.args.d) c.boxes.ensures ∙ sym (ap (depth_after c.args.d) c.in-Place.is)
