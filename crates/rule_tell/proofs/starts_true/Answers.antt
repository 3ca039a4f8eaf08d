-- By its sort. Assumes nothing.
use Rattle.rule_tell.proofs.starts_true.Goals as goal

pub returns-in-Inner : goal.returns-in-Inner
returns-in-Inner c = rw c.in-Inner.is c.is_true.ensures
