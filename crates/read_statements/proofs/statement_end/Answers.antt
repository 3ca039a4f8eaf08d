use Rattle.std.proofs.lemmas.Result.{err_from_is_err_and}
use Rattle.mem_numbers.specs.Numbers.{triples}
use Rattle.read_statements.proofs.Stepping.{sofar_start, sofar_next, sofar_less, sofar_done, sofar_err}
use Rattle.read_statements.proofs.statement_end.Goals as goal

pub loop-onward-init : goal.loop-onward-init
loop-onward-init c = sofar_start _ _ _

pub step-requires : goal.step-requires
step-requires c = record { known = c.requires; height = c.loop-onward.invariant.height }

pub loop-onward-smaller : goal.loop-onward-smaller
loop-onward-smaller c = sofar_less (triples c.args.codes.now) c.args.stack.now _ _ c.args.at _ _ c.loop-onward.invariant _ _ (rw c.in-Next.is at c.in_ok-onward.ensures)

pub loop-onward-preserved : goal.loop-onward-preserved
loop-onward-preserved c = sofar_next (triples c.args.codes.now) c.args.stack.now _ _ c.args.at _ _ c.loop-onward.invariant _ _ (rw c.in-Next.is at c.in_ok-onward.ensures)

pub returns-in-Done : goal.returns-in-Done
returns-in-Done c = sofar_done (triples c.args.codes.now) c.args.stack.now _ _ c.args.at _ _ c.loop-onward.invariant _ (rw c.in-Done.is at c.in_ok-onward.ensures)

pub returns-in_err-onward : goal.returns-in_err-onward
returns-in_err-onward c = let p = err_from_is_err_and c.from_residual.result c.from_residual.ensures.1 in rw (p.1, p.2) (sofar_err (triples c.args.codes.now) c.args.stack.now _ _ c.args.at _ _ c.loop-onward.invariant _ c.in_err-onward.ensures)
