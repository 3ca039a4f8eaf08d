-- The step's own contract. Assumes nothing.
use Rattle.aklcheck.proofs.akl_step.Goals as goal

pub returns : goal.returns
returns c = c.akl_step.ensures
