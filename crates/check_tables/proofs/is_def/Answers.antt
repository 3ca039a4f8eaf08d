-- The bit of the number, if there is one. Assumes nothing.
use mathlib.Core.Path.{refl}
use native.Mathlib.Omega.{arith}
use Rattle.check_tables.specs.Tables.{arities_of, get_arity, def_yes, def_past, def_many}
use Rattle.check_tables.proofs.is_def.Goals as goal

pub returns-then-k-gt8 : goal.returns-then-k-gt8
returns-then-k-gt8 c = def_many (arities_of c.args.w.now) c.args.m c.args.p c.args.k (omega arith) (omega arith)

pub get-a-requires-clause-can : goal.get-a-requires-clause-can
get-a-requires-clause-can c = get_arity c.requires (omega arith)

pub returns-then-p-m : goal.returns-then-p-m
returns-then-p-m c = def_yes c.args.w.now (omega arith) (omega arith) c.get-a.ensures c.bit-b.ensures refl

pub returns : goal.returns
returns c = def_past (arities_of c.args.w.now) c.args.m c.args.p c.args.k (omega arith)
