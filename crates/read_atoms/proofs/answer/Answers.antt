use mathlib.Core.Path.{◌≡◌, subst}
use Rattle.std.specs.Prelude.{Err}
use Rattle.read_varwords.specs.declared.Unwritten.{Unwritten}
use Rattle.read_atoms.specs.Answers.{answered, answered_many, answered_full}
use Rattle.read_atoms.proofs.answer.Goals as goal

pub returns-in-Ok : goal.returns-in-Ok
returns-in-Ok c = answered c.args.rest c.args.low _ c.in-Ok.is c.lowest-f.ensures

pub returns-in-Many : goal.returns-in-Many
returns-in-Many c = answered_many c.args.rest c.args.low (subst (λ (x : Unwritten). c.args.v ≡ Err x) c.in-Many.is c.in-Err.is)

pub returns-in-Full : goal.returns-in-Full
returns-in-Full c = answered_full c.args.rest c.args.low (subst (λ (x : Unwritten). c.args.v ≡ Err x) c.in-Full.is c.in-Err.is)
