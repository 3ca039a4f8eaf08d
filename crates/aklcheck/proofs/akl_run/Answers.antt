-- The steps text's own contract. Assumes nothing.
use Rattle.aklcheck.proofs.akl_run.Goals as goal

pub returns : goal.returns
returns c = c.akl_run.ensures
