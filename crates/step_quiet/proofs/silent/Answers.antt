-- By the test's answer. Assumes nothing.
use Rattle.step_quiet.proofs.Verdicts.{can_test, is_silent, is_loud, has_room}
use Rattle.step_quiet.proofs.silent.Goals as goal

pub quiet-c-requires : goal.quiet-c-requires
quiet-c-requires c = can_test c.requires

pub returns-in-Silent : goal.returns-in-Silent
returns-in-Silent c = is_silent c.quiet-c.result c.quiet-c.ensures.0 c.quiet-c.ensures.1 c.quiet-c.ensures.2 c.in-Silent.is

pub returns-in-Loudly : goal.returns-in-Loudly
returns-in-Loudly c = is_loud c.quiet-c.result c.quiet-c.ensures.0 c.quiet-c.ensures.1 c.quiet-c.ensures.2 c.in-Loudly.is

pub returns-in-NoSpace : goal.returns-in-NoSpace
returns-in-NoSpace c = has_room c.quiet-c.result c.quiet-c.ensures.0 c.quiet-c.ensures.1 c.quiet-c.ensures.2 c.in-NoSpace.is c.requires
