-- Byte by byte. Assumes nothing.
use native.Mathlib.Omega.{arith}
use mathlib.Core.Path.{refl, ◌∙◌}
use Rattle.record_lines.proofs.Pieces.{text_none, text_more, text_all}
use Rattle.record_lines.proofs.text.Goals as goal

pub loop-i-init : goal.loop-i-init
loop-i-init c = (omega arith, refl, text_none c.args.piece.now _ _ c.requires)

pub loop-i-preserved : goal.loop-i-preserved
loop-i-preserved c = (omega arith, c.byte-end.auto.out ∙ c.loop-i.invariant.1, text_more c.args.piece.now c.loop-i.i (omega arith) c.loop-i.invariant.2 c.byte-end.ensures)

pub returns : goal.returns
returns c = text_all c.args.piece.now c.loop-i.i (omega arith) c.loop-i.invariant.2
