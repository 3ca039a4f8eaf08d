-- Where its bytes end decides; then they are written, or only counted. Assumes nothing.
use mathlib.Core.Path.{refl}
use native.Mathlib.Omega.{arith}
use Rattle.answer_emit.proofs.Ways.{fit_room, fit_length, ends_dry, ends_wet, filled_piece}
use Rattle.answer_emit.proofs.text.Goals as goal

pub returns-then-write : goal.returns-then-write
returns-then-write c = ends_wet c.end_of-end.ensures refl (omega arith) c.if-write.true (filled_piece (omega (arith, fit_room c.end_of-end.ensures (omega arith), fit_length c.end_of-end.ensures (omega arith))) (fit_length c.end_of-end.ensures (omega arith)) c.copy_from_slice.ensures.after)

pub returns : goal.returns
returns c = ends_dry c.end_of-end.ensures refl (omega arith) c.if-write.false
