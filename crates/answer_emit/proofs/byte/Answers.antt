-- There is no room, or the byte is written, or only counted. Assumes nothing.
use mathlib.Core.Path.{refl}
use native.Mathlib.Omega.{arith}
use Rattle.answer_emit.proofs.Ways.{put_over, put_dry, put_wet, filled_byte}
use Rattle.answer_emit.proofs.byte.Goals as goal

pub returns-then-out-at : goal.returns-then-out-at
returns-then-out-at c = put_over (omega arith) refl

pub bounds-out-at : goal.bounds-out-at
bounds-out-at c = omega arith

pub returns-then-write : goal.returns-then-write
returns-then-write c = put_wet (omega arith) refl c.if-write.true (filled_byte _ _ _ (omega arith))

pub returns : goal.returns
returns c = put_dry (omega arith) refl c.if-write.false
