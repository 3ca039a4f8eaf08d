-- The heads first, then the machine with their table. Assumes nothing.
use Rattle.check_program.specs.Checking.{can_run, heads_refused, checked}
use Rattle.check_program.proofs.program.Goals as goal

pub fill-f-requires : goal.fill-f-requires
fill-f-requires c = c.requires

pub returns-then-not-f : goal.returns-then-not-f
returns-then-not-f c = heads_refused c.fill-f.ensures (c.if-not-f.true)

pub run-requires : goal.run-requires
run-requires c = can_run c.requires c.fill-f.ensures

pub returns : goal.returns
returns c = checked c.requires c.fill-f.ensures (c.if-not-f.false) c.run.ensures
