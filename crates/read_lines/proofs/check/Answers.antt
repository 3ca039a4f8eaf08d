-- `read_lines::check` meets its contract: line by line, with the turns of the definition that are left. Assumes nothing.
use native.Mathlib.Omega.{arith}
use Rattle.std.proofs.lemmas.Result.{err_from_is_err_and}
use Rattle.read_steps.specs.Lines.{too_long, sofar_none, sofar_end, sofar_refused, sofar_more}
use Rattle.read_lines.proofs.check.Goals as goal

pub returns-then-s-gt16384 : goal.returns-then-s-gt16384
returns-then-s-gt16384 c = too_long _ (omega arith)

pub loop-at-init : goal.loop-at-init
loop-at-init c = sofar_none _

pub returns : goal.returns
returns c = sofar_end _ _ _ (omega arith) c.loop-at.invariant (omega arith)

pub returns-in_err-rest : goal.returns-in_err-rest
returns-in_err-rest c = let p = err_from_is_err_and c.from_residual.result c.from_residual.ensures.1 in rw (p.1, p.2) (sofar_refused _ _ _ (omega arith) c.loop-at.invariant (omega arith) _ c.in_err-rest.ensures)

pub overflow_add-n : goal.overflow_add-n
overflow_add-n c = omega (arith, c.loop-at.invariant.few)

pub loop-at-smaller : goal.loop-at-smaller
loop-at-smaller c = let l = c.in_ok-rest.ensures in omega (arith, l.forward.ahead, l.forward.inside)

pub loop-at-preserved : goal.loop-at-preserved
loop-at-preserved c = sofar_more _ _ _ c.loop-at.invariant (omega arith) _ _ c.in_ok-rest.ensures
