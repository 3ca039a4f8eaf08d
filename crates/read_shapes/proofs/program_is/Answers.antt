use native.Mathlib.Omega.{arith}
use Rattle.std.proofs.lemmas.Result.{err_from_is_err_and}
use Rattle.mem_numbers.specs.Numbers.{triples}
use Rattle.read_grammar.proofs.Defining.{defined_start, defined_next, defined_less, defined_err, defined_whole}
use Rattle.read_shapes.proofs.program_is.Goals as goal

pub loop-i-init : goal.loop-i-init
loop-i-init c = defined_start _ _

pub definition_end-requires : goal.definition_end-requires
definition_end-requires c = c.requires

pub loop-i-smaller : goal.loop-i-smaller
loop-i-smaller c = defined_less (triples c.args.codes.now) c.args.stack.now c.loop-i.stack c.loop-i.stack _ c.loop-i.invariant _ c.in_ok-rest.ensures

pub loop-i-preserved : goal.loop-i-preserved
loop-i-preserved c = defined_next (triples c.args.codes.now) c.args.stack.now c.loop-i.stack _ _ c.loop-i.invariant _ c.definition_end.auto.stack c.in_ok-rest.ensures

pub returns-in_err-rest : goal.returns-in_err-rest
returns-in_err-rest c = let p = err_from_is_err_and c.from_residual.result c.from_residual.ensures.1 in rw (p.1, p.2) (defined_err (triples c.args.codes.now) c.args.stack.now c.loop-i.stack c.loop-i.stack _ c.loop-i.invariant (omega (arith, c.count-n.ensures.is)) _ c.in_err-rest.ensures)

pub returns : goal.returns
returns c = defined_whole (triples c.args.codes.now) c.args.stack.now c.loop-i.stack c.loop-i.stack _ c.loop-i.invariant (omega (arith, c.count-n.ensures.is))
