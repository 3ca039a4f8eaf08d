-- The start's own contract. Assumes nothing.
use Rattle.aklcheck.proofs.akl_start.Goals as goal

pub returns : goal.returns
returns c = c.akl_start.ensures
