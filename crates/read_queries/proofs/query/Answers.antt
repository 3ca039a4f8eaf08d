use native.Mathlib.Omega.{arith}
use Rattle.read_wholes.proofs.Tables.{answered, codes_there, codes_length, binds_there, binds_length, lent}
use Rattle.read_queries.proofs.Answering.{query_too_long, query_not, query_cramped, query_few_binds, query_few_order, query_can, query_through}
use Rattle.read_queries.proofs.query.Goals as goal

pub returns-then-count-names : goal.returns-then-count-names
returns-then-count-names c = query_few_binds (answered c.in-Yes.is c.query_text-r.ensures) (omega (arith, c.count.ensures.is))

pub returns-then-count-lt16 : goal.returns-then-count-lt16
returns-then-count-lt16 c = query_few_order (answered c.in-Yes.is c.query_text-r.ensures) (omega (arith, c.count-in-Yes.ensures.is))

pub overflow_mul-e : goal.overflow_mul-e
overflow_mul-e c = omega (arith, (answered c.in-Yes.is c.query_text-r.ensures).answer.entries.table.short, (answered c.in-Yes.is c.query_text-r.ensures).answer.fits)

pub slice_bounds-checked-end : goal.slice_bounds-checked-end
slice_bounds-checked-end c = codes_there c.query_text-r.new.codes (answered c.in-Yes.is c.query_text-r.ensures)

pub slice_bounds-checked-end-in-Yes : goal.slice_bounds-checked-end-in-Yes
slice_bounds-checked-end-in-Yes c = codes_length c.query_text-r.new.codes (answered c.in-Yes.is c.query_text-r.ensures)

pub slice_bounds-checked-end-in-Yes-2 : goal.slice_bounds-checked-end-in-Yes-2
slice_bounds-checked-end-in-Yes-2 c = binds_there c.query_text-r.new.codes (answered c.in-Yes.is c.query_text-r.ensures) c.args.binds.now (omega (arith, c.count.ensures.is))

pub slice_bounds-checked-end-in-Yes-3 : goal.slice_bounds-checked-end-in-Yes-3
slice_bounds-checked-end-in-Yes-3 c = binds_length c.query_text-r.new.codes (answered c.in-Yes.is c.query_text-r.ensures) c.args.binds.now (omega (arith, c.count.ensures.is))

pub checked-requires : goal.checked-requires
checked-requires c = query_can c.requires (answered c.in-Yes.is c.query_text-r.ensures) (lent c.query_text-r.new.codes (answered c.in-Yes.is c.query_text-r.ensures) c.args.binds.now (omega (arith, c.count.ensures.is))) (omega (arith, c.count-in-Yes.ensures.is))

pub returns-else-count-lt16 : goal.returns-else-count-lt16
returns-else-count-lt16 c = query_through c.requires (answered c.in-Yes.is c.query_text-r.ensures) (lent c.query_text-r.new.codes (answered c.in-Yes.is c.query_text-r.ensures) c.args.binds.now (omega (arith, c.count.ensures.is))) _ c.checked.ensures

pub returns-in-Long : goal.returns-in-Long
returns-in-Long c = query_too_long (answered c.in-Long.is c.query_text-r.ensures)

pub returns-in-Odd : goal.returns-in-Odd
returns-in-Odd c = query_not (answered c.in-Odd.is c.query_text-r.ensures)

pub returns-in-Short : goal.returns-in-Short
returns-in-Short c = query_cramped (answered c.in-Short.is c.query_text-r.ensures)
