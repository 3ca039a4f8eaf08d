use native.Mathlib.Omega.{arith}
use Rattle.read_scopes.specs.Scopes.{entered}
use Rattle.read_scopes.proofs.enter.Goals as goal

pub name_at-id-requires : goal.name_at-id-requires
name_at-id-requires c = c.requires.inside

pub get-old-requires-clause-inside : goal.get-old-requires-clause-inside
get-old-requires-clause-inside c = omega (arith, c.requires.name, c.name_at-id.ensures)

pub put-requires-clause-can : goal.put-requires-clause-can
put-requires-clause-can c = record { inside = c.requires.room; small = omega (arith, c.get-old.ensures.small, c.requires.small) }

pub put-requires-2-clause-can : goal.put-requires-2-clause-can
put-requires-2-clause-can c = record { inside = omega (arith, c.requires.name, c.name_at-id.ensures); small = c.requires.small }

pub returns : goal.returns
returns c = entered c.name_at-id.ensures c.get-old.ensures.is c.put.ensures c.put-2.ensures
