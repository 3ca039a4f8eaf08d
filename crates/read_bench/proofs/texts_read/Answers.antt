use native.Mathlib.Omega.{arith}
use Rattle.read_bench.proofs.Saying.{no_room, counted_all, too_large, is_refused, is_short}
use Rattle.read_bench.proofs.texts_read.Goals as goal

pub returns-then-count-lt5 : goal.returns-then-count-lt5
returns-then-count-lt5 c = no_room (omega (arith, c.count.ensures.is))

pub returns-then-counted : goal.returns-then-counted
returns-then-counted c = counted_all c.in-Read.is c.read-r.ensures.0 c.counted.ensures c.if-counted.true

pub returns-else-counted : goal.returns-else-counted
returns-else-counted c = too_large c.in-Read.is c.read-r.ensures.0 (omega (arith, c.count.ensures.is, c.if-count-lt5.false)) c.counted.ensures c.if-counted.false

pub returns-in-Refused : goal.returns-in-Refused
returns-in-Refused c = is_refused c.in-Refused.is c.read-r.ensures.0 c.number.ensures

pub returns-in-Short : goal.returns-in-Short
returns-in-Short c = is_short c.in-Short.is c.read-r.ensures.0
