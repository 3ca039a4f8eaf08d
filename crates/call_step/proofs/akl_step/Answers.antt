-- The working slice is made zero at the end. Assumes nothing.
use Rattle.std.proofs.Common.{rules}
use Rattle.call_step.proofs.akl_step.Goals as goal

pub returns-in-Ok : goal.returns-in-Ok
returns-in-Ok c = record { step = c.in-Ok.ensures; working = search rules }

pub returns-in-Err : goal.returns-in-Err
returns-in-Err c = record { step = rw c.number.ensures c.in-Err.ensures; working = search rules }
