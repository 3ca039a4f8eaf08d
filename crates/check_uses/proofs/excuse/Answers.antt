-- By cases. Assumes nothing.
use native.Mathlib.Omega.{arith}
use Rattle.check_vartables.specs.Tables.{links_of}
use Rattle.check_uses.specs.Uses.{excuse_none, excuse_free, excuse_by}
use Rattle.check_uses.proofs.excuse.Goals as goal

pub returns-then-t-eq0 : goal.returns-then-t-eq0
returns-then-t-eq0 c = excuse_none (links_of c.args.work.now) c.args.t c.args.v c.if-t-eq0.true

pub overflow_sub-t : goal.overflow_sub-t
overflow_sub-t c = omega arith

pub link_get-l-requires : goal.link_get-l-requires
link_get-l-requires c = record { laid = c.requires.0; inside = omega (arith, c.requires.1) }

pub returns-then-l-eq0 : goal.returns-then-l-eq0
returns-then-l-eq0 c = excuse_free (links_of c.args.work.now) c.args.t c.args.v c.link_get-l.result c.if-t-eq0.false c.link_get-l.ensures.is c.if-l-eq0.true

pub returns : goal.returns
returns c = excuse_by (links_of c.args.work.now) c.args.t c.args.v c.link_get-l.result c.if-t-eq0.false c.link_get-l.ensures.is c.if-l-eq0.false
