-- It is noted where it belongs. Assumes nothing.
use mathlib.Core.Path.{sym, ◌∙◌}
use native.Mathlib.Omega.{arith}
use Rattle.work_tables.specs.Tables.{laid_after}
use Rattle.check_scope.specs.Next.{looks, is_barred, is_put}
use Rattle.check_scope.proofs.open_other.Goals as goal

pub aim-t-requires : goal.aim-t-requires
aim-t-requires c = looks c.requires

pub returns-then-barred : goal.returns-then-barred
returns-then-barred c = is_barred c.args.b c.aim-t.result c.aim-t.ensures (sym c.barred.ensures ∙ c.if-barred.true)

pub link_put-requires : goal.link_put-requires
link_put-requires c = record { laid = c.requires.laid; inside = omega (arith, c.requires.short, c.requires.inside); small = omega (arith, (looks c.requires).aims, c.aim-t.ensures) }

pub stack_put-requires : goal.stack_put-requires
stack_put-requires c = record { laid = laid_after c.requires.laid c.link_put.ensures.rest; inside = omega (arith, c.requires.short, c.requires.inside, c.requires.holding.few); small = omega (arith, c.requires.short, c.requires.inside) }

pub returns : goal.returns
returns c = is_put c.args.b c.aim-t.result c.aim-t.ensures (sym c.barred.ensures ∙ c.if-barred.false) c.link_put.ensures c.stack_put.ensures
