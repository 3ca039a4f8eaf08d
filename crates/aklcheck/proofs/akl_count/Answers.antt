-- The count's own contract. Assumes nothing.
use Rattle.aklcheck.proofs.akl_count.Goals as goal

pub returns : goal.returns
returns c = c.akl_count.ensures
