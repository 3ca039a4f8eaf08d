-- The answers are laws of `Entering`. Assumes nothing.
use mathlib.Core.Path.{refl}
use Rattle.work_enter.proofs.Entering.{can_enter, can_test, pushed_as, enter_failed, enter_stopped, enter_deeper, enter_cyclic}
use Rattle.work_enter.proofs.enter.Goals as goal

pub push-o-requires : goal.push-o-requires
push-o-requires c = can_enter c.requires

pub acyclic_since-requires : goal.acyclic_since-requires
acyclic_since-requires c = can_test _ _ _ _ _ _ _ _ (can_enter c.requires) _ _ _ refl (pushed_as _ _ _ _ _ _ _ _ _ _ c.in-All.is c.push-o.ensures) c.requires.marks c.requires.at

pub returns-then-acyclic_since : goal.returns-then-acyclic_since
returns-then-acyclic_since c = enter_deeper _ _ _ _ _ _ _ _ (can_enter c.requires) _ _ _ refl (pushed_as _ _ _ _ _ _ _ _ _ _ c.in-All.is c.push-o.ensures) _ c.acyclic_since.ensures.1 c.acyclic_since.result c.if-acyclic_since.true c.acyclic_since.ensures.0

pub returns-else-acyclic_since : goal.returns-else-acyclic_since
returns-else-acyclic_since c = enter_cyclic _ _ _ _ _ _ _ _ (can_enter c.requires) _ _ _ refl (pushed_as _ _ _ _ _ _ _ _ _ _ c.in-All.is c.push-o.ensures) _ c.acyclic_since.ensures.1 c.acyclic_since.result c.if-acyclic_since.false c.acyclic_since.ensures.0

pub returns-in-Failed : goal.returns-in-Failed
returns-in-Failed c = enter_failed _ _ _ _ _ _ _ _ (can_enter c.requires) _ _ (pushed_as _ _ _ _ _ _ _ _ _ _ c.in-Failed.is c.push-o.ensures)

pub returns-in-NoRoom : goal.returns-in-NoRoom
returns-in-NoRoom c = enter_stopped _ _ _ _ _ _ _ _ (can_enter c.requires) _ _ (pushed_as _ _ _ _ _ _ _ _ _ _ c.in-NoRoom.is c.push-o.ensures)
