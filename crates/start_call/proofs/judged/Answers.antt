use mathlib.Core.Path.{sym}
use native.Mathlib.Omega.{arith}
use lib.Seq.{length-take-le}
use Rattle.start_call.proofs.Cut.{long_program, cut_query}
use Rattle.start_call.proofs.judged.Goals as goal

pub returns-then-program-gt16384 : goal.returns-then-program-gt16384
returns-then-program-gt16384 c = long_program c.args.program.now c.args.query.now c.args.store.now c.args.w (omega arith)

pub slice_bounds-begin-end : goal.slice_bounds-begin-end
slice_bounds-begin-end c = sym (length-take-le 4097 c.args.query.now (omega arith))

pub begin-requires : goal.begin-requires
begin-requires c = record { program = omega arith; query_most = omega (arith, length-take-le 4097 c.args.query.now (omega arith)) }

pub returns-then-query-gt4096 : goal.returns-then-query-gt4096
returns-then-query-gt4096 c = cut_query c.args.program.now c.args.query.now c.args.store.now _ c.args.w _ (omega arith) c.begin.ensures

pub begin-requires-2 : goal.begin-requires-2
begin-requires-2 c = record { program = omega arith; query_most = omega arith }
