-- Where its bytes end decides; then they are written, or only counted. Assumes nothing.
use mathlib.Core.Path.{sym}
use native.Mathlib.Omega.{arith}
use Rattle.answer_emit.proofs.Ways.{fit_room, ends_over, ends_dry, ends_wet}
use Rattle.answer_emit.proofs.name.Goals as goal

pub name_length-len-requires : goal.name_length-len-requires
name_length-len-requires c = (c.requires.0, c.requires.1)

pub returns-then-out-end : goal.returns-then-out-end
returns-then-out-end c = ends_over c.end_of-end.ensures (sym c.name_length-len.ensures) (omega arith)

pub name_back-requires : goal.name_back-requires
name_back-requires c = (c.requires.0, c.requires.1, c.name_length-len.ensures, fit_room c.end_of-end.ensures (omega arith))

pub returns-then-write : goal.returns-then-write
returns-then-write c = ends_wet c.end_of-end.ensures (sym c.name_length-len.ensures) (omega arith) c.if-write.true c.name_back.ensures

pub returns : goal.returns
returns c = ends_dry c.end_of-end.ensures (sym c.name_length-len.ensures) (omega arith) c.if-write.false
