use native.Mathlib.Omega.{arith}
use Rattle.read_scopes.specs.Scopes.{left}
use Rattle.read_scopes.proofs.leave.Goals as goal

pub name_at-id-requires : goal.name_at-id-requires
name_at-id-requires c = c.requires.inside

pub get-old-requires-clause-inside : goal.get-old-requires-clause-inside
get-old-requires-clause-inside c = c.requires.room

pub put-requires-clause-can : goal.put-requires-clause-can
put-requires-clause-can c = record { inside = omega (arith, c.requires.name, c.name_at-id.ensures); small = omega (arith, c.get-old.ensures.small) }

pub returns : goal.returns
returns c = left c.name_at-id.ensures c.get-old.ensures.is c.put.ensures
