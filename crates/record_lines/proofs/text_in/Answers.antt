-- The part came back. Assumes nothing.
use mathlib.Core.Path.{refl}
use Rattle.mem_parts.specs.Parts.{cut}
use Rattle.record_lines.proofs.text_in.Goals as goal

pub returns : goal.returns
unfolding cut
returns c = record { part = c.akl_answer.new.out; told = c.akl_answer.ensures.answer; back = refl; working = c.akl_answer.ensures.working }
