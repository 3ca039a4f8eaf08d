use mathlib.Core.Path.{refl, ◌∙◌}
use mathlib.Core.Bool.{true, false}
use native.Mathlib.Omega.{arith}
use Rattle.std.proofs.lemmas.Result.{err_from_is_err_and}
use Rattle.mem_numbers.specs.Numbers.{triples, length_triples}
use Rattle.read_varwords.specs.Vars.{vars_start, vars_more, vars_err_at, vars_all}
use Rattle.read_varlists.proofs.variables.Goals as goal

pub loop-j-init : goal.loop-j-init
loop-j-init c = (omega arith, refl, refl, vars_start (triples c.args.codes.now) c.args.first c.requires.room c.requires.few c.requires.known)

pub overflow_mul-j : goal.overflow_mul-j
overflow_mul-j c = omega (arith, c.requires.inside (omega arith), length_triples c.args.codes.now)

pub overflow_add-first : goal.overflow_add-first
overflow_add-first c = omega (arith, c.requires.inside (omega arith), length_triples c.args.codes.now)

pub get-id-requires-clause-inside : goal.get-id-requires-clause-inside
get-id-requires-clause-inside c = omega (arith, c.requires.inside (omega arith))

pub returns-in_err-v : goal.returns-in_err-v
returns-in_err-v c =
    let p = err_from_is_err_and c.from_residual.result c.from_residual.ensures.1 in
    rw (p.1, p.2) (vars_err_at (triples c.args.codes.now) c.args.first c.loop-j.j c.loop-j.invariant.3 (omega (arith, c.get-id.ensures.is)) _ _ c.args.count (omega arith) _ c.in_err-v.ensures)

pub loop-j-preserved : goal.loop-j-preserved
loop-j-preserved c = (omega arith, c.variable.auto.out ∙ c.loop-j.invariant.1, c.variable.auto.order ∙ c.loop-j.invariant.2, vars_more (triples c.args.codes.now) c.args.first c.loop-j.j c.loop-j.invariant.3 (omega (arith, c.get-id.ensures.is)) _ c.requires.order c.in_ok-v.ensures refl)

pub returns : goal.returns
returns c = vars_all (triples c.args.codes.now) c.args.first c.loop-j.j c.args.count c.loop-j.invariant.3 (omega arith)
