-- The sum is small. Assumes nothing.
use Rattle.check_moves.proofs.claused.Goals as goal

pub returns : goal.returns
returns c = c.when.ensures
