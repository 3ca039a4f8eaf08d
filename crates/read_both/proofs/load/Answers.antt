use native.Mathlib.Omega.{arith}
use Rattle.read_inputs.proofs.Loading.{begun_not, begun_yes, long, program_refused, program_short, query_can, query_refused, query_short, query_read, heads_there, heads_length, heads_prefix, told_program, told_query}
use Rattle.read_both.proofs.load.Goals as goal

pub returns-then-not-reserve : goal.returns-then-not-reserve
returns-then-not-reserve c = begun_not c.reserve.result c.reserve.ensures (c.if-not-reserve.true)

pub program-p-requires : goal.program-p-requires
program-p-requires c = begun_yes c.reserve.result c.reserve.ensures (c.if-not-reserve.false)

pub overflow_mul-e : goal.overflow_mul-e
overflow_mul-e c = omega (arith, heads_there c.program-p.new.heads (told_program c.in-Read.is c.program-p.ensures), c.program-p.auto.heads, c.well_formed)

pub slice_bounds-query-end : goal.slice_bounds-query-end
slice_bounds-query-end c = heads_there c.program-p.new.heads (told_program c.in-Read.is c.program-p.ensures)

pub slice_bounds-query-end-in-Read : goal.slice_bounds-query-end-in-Read
slice_bounds-query-end-in-Read c = heads_length c.program-p.new.heads (told_program c.in-Read.is c.program-p.ensures)

pub query-q-requires : goal.query-q-requires
query-q-requires c = query_can (told_program c.in-Read.is c.program-p.ensures) (heads_prefix c.program-p.new.heads (told_program c.in-Read.is c.program-p.ensures))

pub returns-in-Read-q : goal.returns-in-Read-q
returns-in-Read-q c = query_read c.reserve.ensures.kept (told_program c.in-Read.is c.program-p.ensures) (heads_prefix c.program-p.new.heads (told_program c.in-Read.is c.program-p.ensures)) _ _ _ (told_query c.in-Read-q.is c.query-q.ensures)

pub returns-in-Refused-q : goal.returns-in-Refused-q
returns-in-Refused-q c = query_refused c.reserve.ensures.kept (told_program c.in-Read.is c.program-p.ensures) (heads_prefix c.program-p.new.heads (told_program c.in-Read.is c.program-p.ensures)) _ (told_query c.in-Refused-q.is c.query-q.ensures)

pub returns-in-Short-q : goal.returns-in-Short-q
returns-in-Short-q c = query_short c.reserve.ensures.kept (told_program c.in-Read.is c.program-p.ensures) (heads_prefix c.program-p.new.heads (told_program c.in-Read.is c.program-p.ensures)) (long c.args.codes.now c.args.stack.now c.args.binds.now c.args.saves.now c.args.order.now c.program-p.new.codes c.program-p.new.stack c.program-p.new.binds c.program-p.new.saves c.program-p.new.order c.program-p.auto.codes c.program-p.auto.stack c.program-p.auto.binds c.program-p.auto.saves c.program-p.auto.order) (told_query c.in-Short-q.is c.query-q.ensures)

pub returns-in-Refused : goal.returns-in-Refused
returns-in-Refused c = program_refused c.reserve.ensures.kept _ (told_program c.in-Refused.is c.program-p.ensures)

pub returns-in-Short : goal.returns-in-Short
returns-in-Short c = program_short c.reserve.ensures.kept (told_program c.in-Short.is c.program-p.ensures)
