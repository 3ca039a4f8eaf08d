use mathlib.Core.List.{◌∷◌, []}
use mathlib.Core.Path.{refl}
use native.Mathlib.Omega.{arith}
use Rattle.std.proofs.lemmas.Result.{err_from_is_err_and}
use Rattle.read_laid.specs.Parts.{tables_on}
use Rattle.read_laid.specs.Shapes.{is_done, is_err, same_on, same_lay}
use Rattle.read_laid.proofs.same.Goals as goal

pub last-z-requires : goal.last-z-requires
last-z-requires c = (tables_on (is_done c.in_ok-v.ensures refl) c.requires.0, c.requires.2)

pub returns : goal.returns
returns c = same_on c.in_ok-v.ensures refl c.last-z.ensures _ c.either.ensures

pub returns-in_err-v : goal.returns-in_err-v
returns-in_err-v c =
    let p = err_from_is_err_and c.from_residual.result c.from_residual.ensures.1 in
    rw (p.1, p.2) (is_err 4 (c.args.right ∷ []) (same_lay c.args.left c.args.right) _ (omega arith) c.in_err-v.ensures refl)
