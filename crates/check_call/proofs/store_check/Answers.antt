-- The working slice is made zero at the end. Assumes nothing.
use mathlib.Core.Path.{◌∙◌}
use lib.ListN.{length}
use Rattle.std.proofs.Common.{rules}
use Rattle.check_call.proofs.Answers.{told}
use Rattle.check_call.proofs.store_check.Goals as goal

pub returns-in-Ok : goal.returns-in-Ok
returns-in-Ok c = record { refusal = told c.args.store.now (length c.args.work.now) _ c.in-Ok.ensures; working = search rules }

pub returns-in-Err : goal.returns-in-Err
returns-in-Err c = record { refusal = c.number.ensures ∙ told c.args.store.now (length c.args.work.now) _ c.in-Err.ensures; working = search rules }
