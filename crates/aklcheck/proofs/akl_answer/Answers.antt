-- The answer's own contract. Assumes nothing.
use Rattle.aklcheck.proofs.akl_answer.Goals as goal

pub returns : goal.returns
returns c = c.akl_answer.ensures
