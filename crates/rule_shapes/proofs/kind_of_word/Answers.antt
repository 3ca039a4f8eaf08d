-- By the word. Assumes nothing.
use Rattle.rule_shapes.proofs.kind_of_word.Goals as goal

pub returns-in-Place : goal.returns-in-Place
returns-in-Place c = rw c.in-Place.is c.kind_no.ensures.0
