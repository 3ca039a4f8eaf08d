-- By what the innermost bracket is. Assumes nothing.
use mathlib.Core.Path.{sym, ◌∙◌}
use native.Mathlib.Omega.{arith}
use Rattle.check_roles.specs.declared.Role.TheVariants.{Clear, Plain, Guarding}
use Rattle.check_scope.specs.Next.{looks, is_stray, is_ended, is_unboxed}
use Rattle.check_scope.proofs.close.Goals as goal

pub returns-then-k-eq0 : goal.returns-then-k-eq0
returns-then-k-eq0 c = is_stray c.requires.0 c.requires.1 c.if-k-eq0.true

pub overflow_sub-k : goal.overflow_sub-k
overflow_sub-k c = omega arith

pub stack_get-p-requires : goal.stack_get-p-requires
stack_get-p-requires c = record { laid = c.requires.0.laid; inside = omega (arith, c.requires.0.short, c.requires.0.inside, c.requires.0.holding.few) }

pub get-w-requires : goal.get-w-requires
get-w-requires c = omega (arith, (looks c.requires.0).inside c.if-k-eq0.false, c.stack_get-p.ensures.is)

pub overflow_sub-result : goal.overflow_sub-result
overflow_sub-result c = omega arith

pub overflow_sub-result-in-Plain : goal.overflow_sub-result-in-Plain
overflow_sub-result-in-Plain c = omega arith

pub overflow_add-p : goal.overflow_add-p
overflow_add-p c = omega (arith, c.stack_get-p.ensures.small)

pub unmark-requires : goal.unmark-requires
unmark-requires c = c.requires.0.laid

pub overflow_sub-result-in-Boxed : goal.overflow_sub-result-in-Boxed
overflow_sub-result-in-Boxed c = omega arith

pub overflow_sub-result-in-Guarding : goal.overflow_sub-result-in-Guarding
overflow_sub-result-in-Guarding c = omega arith

pub returns-in-Clear : goal.returns-in-Clear
returns-in-Clear c = is_ended Clear c.requires.0 c.requires.1 c.if-k-eq0.false c.stack_get-p.ensures.is c.get-w.ensures.is (sym c.in-Clear.is ∙ c.role_of-o.ensures) tt

pub returns-in-Plain : goal.returns-in-Plain
returns-in-Plain c = is_ended Plain c.requires.0 c.requires.1 c.if-k-eq0.false c.stack_get-p.ensures.is c.get-w.ensures.is (sym c.in-Plain.is ∙ c.role_of-o.ensures) tt

pub returns-in-Boxed : goal.returns-in-Boxed
returns-in-Boxed c = is_unboxed c.requires.0 c.requires.1 c.if-k-eq0.false c.stack_get-p.ensures.is c.get-w.ensures.is (sym c.in-Boxed.is ∙ c.role_of-o.ensures) c.unmark.ensures

pub returns-in-Guarding : goal.returns-in-Guarding
returns-in-Guarding c = is_ended Guarding c.requires.0 c.requires.1 c.if-k-eq0.false c.stack_get-p.ensures.is c.get-w.ensures.is (sym c.in-Guarding.is ∙ c.role_of-o.ensures) tt
