-- The byte of the number, if there is one. Assumes nothing.
use mathlib.Core.Path.{refl}
use native.Mathlib.Omega.{arith}
use Rattle.check_tables.specs.Tables.{kinds_of, get_kind, pred_yes, pred_no}
use Rattle.check_tables.proofs.is_pred.Goals as goal

pub get1-b-requires : goal.get1-b-requires
get1-b-requires c = get_kind c.requires (omega arith)

pub returns-then-i-m : goal.returns-then-i-m
returns-then-i-m c = pred_yes c.args.w.now (omega arith) c.get1-b.ensures refl

pub returns : goal.returns
returns c = pred_no (kinds_of c.args.w.now) c.args.m c.args.i (omega arith)
