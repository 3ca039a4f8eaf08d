use Prim.Native.Nat.{◌+◌}
use mathlib.Core.Path.{refl}
use native.Mathlib.Omega.{arith}
use Rattle.std.proofs.lemmas.Result.{err_from_is_err_and}
use Rattle.mem_numbers.specs.Numbers.{triples}
use Rattle.read_lookups.specs.Places.{ids}
use Rattle.read_laid.specs.Parts.{tables_on}
use Rattle.read_laid.specs.Shapes.{is_done, is_err, made_on, made_lay}
use Rattle.read_laid.proofs.made.Goals as goal

pub labelled-z-requires : goal.labelled-z-requires
labelled-z-requires c = (tables_on (is_done c.in_ok-v.ensures refl) c.requires.0, c.requires.2, c.requires.3)

pub returns : goal.returns
returns c = made_on c.args.count c.args.label c.in_ok-v.ensures refl c.labelled-z.ensures _ c.either.ensures

pub returns-in_err-v : goal.returns-in_err-v
returns-in_err-v c =
    let p = err_from_is_err_and c.from_residual.result c.from_residual.ensures.1 in
    rw (p.1, p.2) (is_err (c.args.count + 4) (ids (triples c.args.codes.now) c.args.count c.args.first) (made_lay c.args.var c.args.label (ids (triples c.args.codes.now) c.args.count c.args.first)) _ (omega arith) c.in_err-v.ensures refl)
