-- Where its digits end decides; then they are written, or only counted. Assumes nothing.
use native.Mathlib.Omega.{arith}
use mathlib.Core.Path.{sym}
use Rattle.answer_emit.specs.Digits.{length_decimal}
use Rattle.answer_emit.proofs.Ways.{fit_room, ends_over, ends_dry, ends_wet, filled_as}
use Rattle.answer_emit.proofs.number.Goals as goal

pub returns-then-out-end : goal.returns-then-out-end
returns-then-out-end c = ends_over c.end_of-end.ensures (length_decimal c.width-len.ensures) (omega arith)

pub digits_back-requires : goal.digits_back-requires
digits_back-requires c = fit_room c.end_of-end.ensures (omega arith)

pub returns-then-write : goal.returns-then-write
returns-then-write c = ends_wet c.end_of-end.ensures (length_decimal c.width-len.ensures) (omega arith) c.if-write.true (filled_as (sym c.width-len.ensures.is) c.digits_back.ensures)

pub returns : goal.returns
returns c = ends_dry c.end_of-end.ensures (length_decimal c.width-len.ensures) (omega arith) c.if-write.false
