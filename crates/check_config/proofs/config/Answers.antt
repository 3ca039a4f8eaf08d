-- The machine from the root on. Assumes nothing.
use Rattle.check_config.specs.Checking.{can_run, checked}
use Rattle.check_config.proofs.config.Goals as goal

pub run-requires : goal.run-requires
run-requires c = can_run c.requires

pub returns : goal.returns
returns c = checked c.run.ensures
