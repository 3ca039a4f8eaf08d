-- By cases. Assumes nothing.
use native.Mathlib.Omega.{arith}
use Rattle.check_apart.specs.Next.{looks, is_used, is_clash, is_named}
use Rattle.check_apart.proofs.variable.Goals as goal

pub inside_locals-requires : goal.inside_locals-requires
inside_locals-requires c = looks c.requires.0

pub returns-then-not-inside_locals : goal.returns-then-not-inside_locals
returns-then-not-inside_locals c = is_used c.requires.0 c.requires.1 c.inside_locals.result c.inside_locals.ensures (c.if-not-inside_locals.true)

pub name_get-v-requires : goal.name_get-v-requires
name_get-v-requires c = record { laid = c.requires.0.laid; inside = c.requires.1.small.value }

pub agrees-requires : goal.agrees-requires
agrees-requires c = looks c.requires.0

pub returns-then-not-agrees : goal.returns-then-not-agrees
returns-then-not-agrees c = is_clash c.requires.0 c.requires.1 c.inside_locals.result c.inside_locals.ensures (c.if-not-inside_locals.false) c.name_get-v.result c.name_get-v.ensures.is c.agrees.result c.agrees.ensures (c.if-not-agrees.true)

pub overflow_add-i : goal.overflow_add-i
overflow_add-i c = omega (arith, c.requires.0.inside, c.requires.0.short)

pub name_put-requires : goal.name_put-requires
name_put-requires c = record { laid = c.requires.0.laid; inside = c.requires.1.small.value; small = omega (arith, c.requires.0.inside, c.requires.0.short) }

pub returns : goal.returns
returns c = is_named c.requires.0 c.requires.1 c.inside_locals.result c.inside_locals.ensures (c.if-not-inside_locals.false) c.name_get-v.result c.name_get-v.ensures.is c.agrees.result c.agrees.ensures (c.if-not-agrees.false) c.requires.1.small.value c.name_put.ensures
