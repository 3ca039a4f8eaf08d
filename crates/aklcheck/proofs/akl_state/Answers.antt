-- The state's own contract. Assumes nothing.
use Rattle.aklcheck.proofs.akl_state.Goals as goal

pub returns : goal.returns
returns c = c.akl_state.ensures
