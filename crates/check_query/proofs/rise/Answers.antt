-- By cases. Assumes nothing.
use Rattle.check_query.specs.Steps.{rise_box, rise_none, rise_some}
use Rattle.check_query.proofs.rise.Goals as goal

pub returns-then-b : goal.returns-then-b
returns-then-b c = rise_box c.args.b c.args.d c.if-b.true

pub returns-then-d-eq0 : goal.returns-then-d-eq0
returns-then-d-eq0 c = rise_none c.args.b c.args.d c.if-b.false c.if-d-eq0.true

pub returns : goal.returns
returns c = rise_some c.args.b c.args.d c.if-b.false c.if-d-eq0.false
